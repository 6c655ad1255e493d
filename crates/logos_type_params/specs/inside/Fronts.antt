-- The names before a name.
use Rattle.std.specs.Prelude.{◌≡◌, ℕ, List}
use Rattle.std.specs.Str.{bytes_eq}
use Rattle.std.specs.List.{list_any}
use denote.Ref.{Bor}
use Rattle.logos_type_params.specs.SelfReference.{texts}
use Rattle.logos_type_params.specs.NameLists.{Named, is_declared}

-- `keys` consists of the texts of the names in `front`.
abbrev pub AreInFront : List Named → List (Bor (List ℕ)) → Type 0
AreInFront front keys = (text : List ℕ) → list_any (bytes_eq text) (texts keys) ≡ is_declared front text
