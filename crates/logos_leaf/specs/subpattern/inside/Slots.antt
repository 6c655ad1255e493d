-- The indexes of subpatterns by their names.
use Rattle.std.specs.Prelude.{◌≡◌, ℕ, suc, List, [], ◌∷◌, Option, Some, None, option_map, if◌then◌else◌}
use Rattle.std.specs.Map.{lookup}
use Rattle.std.specs.Str.{bytes_eq}
use denote.Ref.{Bor}
use Rattle.logos_leaf.specs.subpattern.Substitution.{Stored}

-- The index of the subpattern with this name, if there is one.
abbrev pub slot_in : List Stored → List ℕ → Option ℕ
slot_in [] name = None
slot_in (s ∷ rest) name = if bytes_eq name s.name then Some 0 else option_map suc (slot_in rest name)

-- The entries map the name of each subpattern to its index, and contain no other name.
abbrev pub FindSlots : List Stored → List (Bor (List ℕ) × ℕ) → Type 0
FindSlots names entries = (name : List ℕ) → lookup (λ (k : Bor (List ℕ)). bytes_eq name k.now) entries ≡ slot_in names name
