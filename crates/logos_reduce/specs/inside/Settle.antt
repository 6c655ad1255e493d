-- The early marks of states, and the flags of the late marks that are needed.
use Rattle.std.specs.Prelude.{◌≡◌, ◌<◌, ◌↔◌, ◌⊎◌, ℕ, Bool, true, false, List, [], Option, Some, None, slice_index_or, if◌then◌else◌, option_and_then}
use Rattle.logos_reduce.specs.Rows.{target_by}
use Rattle.logos_reduce.specs.Settle.{IsCommon, IsNeeded, IsSpare}
use Rattle.logos_reduce.specs.Table.{mark}
use Rattle.logos_reduce.specs.declared.table.StateMarks.{StateMarks}
use Rattle.logos_reduce.specs.declared.table.Table.{Table}

-- The leaf that is accepted by the target of a row on a symbol.
abbrev pub accepted_in : Table → List ℕ → ℕ → Option ℕ
accepted_in table row k = option_and_then (λ t. (mark table t).accept) (target_by row k)

-- The leaf that is accepted by all targets of a row.
abbrev pub IsCommonIn : Table → List ℕ → Option ℕ → Type 0
IsCommonIn table row early = (leaf : ℕ) →
    (early ≡ Some leaf) ↔ ((k : ℕ) → k < 257 → accepted_in table row k ≡ Some leaf)

-- The list contains the leaves that are accepted by all targets of each of the first `n` rows.
abbrev pub AreCommonIn : Table → List (List ℕ) → ℕ → List (Option ℕ) → Type 0
AreCommonIn table rows n leaves = (i : ℕ) → i < n →
    IsCommonIn table (slice_index_or rows i []) (slice_index_or leaves i None)

-- The list contains the early marks of the first `n` states.
abbrev pub AreCommon : Table → ℕ → List (Option ℕ) → Type 0
AreCommon table n early = (s : ℕ) → s < n → IsCommon table s (slice_index_or early s None)

-- The flag of a state is set.
abbrev pub IsSet : List Bool → ℕ → Type 0
IsSet flags t = slice_index_or flags t false ≡ true

-- The flags are set exactly for the states whose late marks are needed on the edges that leave the
-- first `n` states.
pub record AreNeeded (table : Table) (early : List (Option ℕ)) (n : ℕ)
    (needed : List Bool) : Type 0 where
  pub only : (t : ℕ) → IsSet needed t →
      (s : ℕ) × (s < n) × IsNeeded table s (slice_index_or early s None) t
  pub spare : (s t : ℕ) → s < n → IsSet needed t ⊎ IsSpare table s (slice_index_or early s None) t

-- The mark of a state, given its early mark and whether its late mark is needed.
pub record IsMarkedBy (table : Table) (early : List (Option ℕ)) (needed : List Bool) (s : ℕ)
    (new : StateMarks) : Type 0 where
  pub early_mark : new.early ≡ slice_index_or early s None
  pub late_mark : new.accept
      ≡ (if slice_index_or needed s false then (mark table s).accept else None)
