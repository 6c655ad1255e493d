-- The early marks of a table, and the late marks that are needed besides them.
use Rattle.std.specs.Prelude.{◌≡◌, ◌≢◌, ◌<◌, ◌↔◌, ◌⊎◌, ℕ, Option, None, Some, option_and_then}
use Rattle.logos_reduce.specs.RowsView.{rows_of}
use Rattle.logos_reduce.specs.Table.{size, to, mark}
use Rattle.logos_reduce.specs.declared.table.Table.{Table}

-- The leaf that is accepted by the target on a symbol.
abbrev pub accepted : Table → ℕ → ℕ → Option ℕ
accepted table s k = option_and_then (λ t. (mark table t).accept) (to table s k)

-- Every byte and the end lead to states that accept the leaf.
abbrev pub AllAccepted : Table → ℕ → ℕ → Type 0
AllAccepted table s leaf = (k : ℕ) → k < 257 → accepted table s k ≡ Some leaf

-- The early mark of a state: the leaf that is accepted by all its targets.
abbrev pub IsCommon : Table → ℕ → Option ℕ → Type 0
IsCommon table s early = (leaf : ℕ) → (early ≡ Some leaf) ↔ AllAccepted table s leaf

-- The state is entered from a state with this early mark on an edge at which its late mark is
-- needed.
abbrev pub IsNeeded : Table → ℕ → Option ℕ → ℕ → Type 0
IsNeeded table s early t = (k : ℕ) × (to table s k ≡ Some t) × ((mark table t).accept ≢ early)

-- The late mark is not needed on any edge from the state with this early mark.
abbrev pub IsSpare : Table → ℕ → Option ℕ → ℕ → Type 0
IsSpare table s early t = (k : ℕ) → to table s k ≡ Some t → (mark table t).accept ≡ early

-- The late mark of a state is unchanged if it is needed on some edge, and removed if it is needed
-- on none.
abbrev pub IsNeededOrSpare : Table → Table → ℕ → Type 0
IsNeededOrSpare old new t =
    (((mark new t).accept ≡ (mark old t).accept)
    × ((s : ℕ) × (s < size old) × IsNeeded old s (mark new s).early t))
    ⊎ (((mark new t).accept ≡ None) × ((s : ℕ) → s < size old → IsSpare old s (mark new s).early t))

-- The new table has the early marks of the old one, and only the late marks that are needed.
pub record IsSettled (old new : Table) : Type 0 where
  pub rows : rows_of new.rows ≡ rows_of old.rows
  pub states : size new ≡ size old
  pub early : (s : ℕ) → s < size old → IsCommon old s (mark new s).early
  pub late : (t : ℕ) → t < size old → IsNeededOrSpare old new t
