-- The history of the blocks of a reduced table, which yields evidence that its states differ.
use Rattle.std.specs.Prelude.{◌≡◌, ◌≢◌, ◌<◌, ℕ, None, Some, length, vec_len, slice_index}
use Rattle.logos_reduce.specs.Merge.{IsHistory}
use Rattle.logos_reduce.specs.Table.{size, to}
use Rattle.logos_reduce.specs.declared.reduction.Reduction.{Reduction}

-- The history of the blocks of the states.
abbrev pub HistoryOf : Reduction → Type 0
HistoryOf r = IsHistory r.table r.splits.items (slice_index r.blocks.items)

-- The blocks of different states were separated, and a state that is entered on the end leads
-- nowhere.
pub record YieldsEvidence (r : Reduction) : Type 0 where
  pub history : HistoryOf r
  pub some : 0 < length r.splits.items
  pub states : vec_len r.blocks ≡ size r.table
  pub different : (s t : ℕ) → s < size r.table → t < size r.table → s ≢ t →
      slice_index r.blocks.items s ≢ slice_index r.blocks.items t
  pub ends : (s t k : ℕ) → to r.table s 256 ≡ Some t → to r.table t k ≡ None
