-- Numbers for the variants of leaves, according to a table of names.
use Rattle.std.specs.Prelude.{◌≡◌, ◌<◌, ◌+◌, ℕ, List, Option, Some, None, bytes_eq, length, slice_get, slice_index}
use Rattle.std.specs.List.{IsDistinct}
use denote.Ref.{Bor}
use Rattle.logos_pattern.specs.declared.leaf.Leaf.{Leaf}
use Rattle.logos_answers.specs.Names.{variant_name}

abbrev pub Table : Type 0
Table = List (Bor (List ℕ))

-- No name occurs twice in the table.
abbrev pub AreDistinct : Table → Type 0
AreDistinct table = IsDistinct (λ (one other : Bor (List ℕ)). bytes_eq one.now other.now) table

-- The number of a variant: 0 for a skip, and the index of its name plus 1 for another one.
abbrev pub IsNumberOf : Table → Option (List ℕ) → ℕ → Type 0
IsNumberOf table None number = number ≡ 0
IsNumberOf table (Some name) number = (index : ℕ) × (key : Bor (List ℕ)) × (number ≡ index + 1) × (slice_get table index ≡ Some key) × (key.now ≡ name)

-- The numbers of the variants of the first `count` leaves.
pub record AreNumbers (table : Table) (leaves : List Leaf) (count : ℕ) (numbers : List ℕ) : Type 0 where
  pub long : length numbers ≡ count
  pub each : (k : ℕ) (leaf : Leaf) → k < count → slice_get leaves k ≡ Some leaf → IsNumberOf table (variant_name leaf.kind) (slice_index numbers k)

-- The entries of a table have the same indices in another one.
abbrev pub Grows : Table → Table → Type 0
Grows old new = (index : ℕ) (key : Bor (List ℕ)) → slice_get old index ≡ Some key → slice_get new index ≡ Some key
