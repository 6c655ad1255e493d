-- The split that separated two states of a reduced table.
use Rattle.std.specs.Prelude.{◌≡◌, ◌≢◌, ◌+◌, ◌<◌, ℕ, length}
use Rattle.logos_reduce.specs.Merge.{ArePartedBy, split_at}
use Rattle.logos_reduce.specs.History.{HistoryOf}
use Rattle.logos_reduce.specs.declared.reduction.Reduction.{Reduction}

-- The two states were separated when block `j` was separated from its parent.
pub record ArePartedAt (r : Reduction) (s t j : ℕ) : Type 0 where
  pub some : 0 < j
  pub inside : j < length r.splits.items
  pub together : (h : HistoryOf r) → h.at j s ≡ h.at j t
  pub later : (h : HistoryOf r) → h.at (j + 1) s ≢ h.at (j + 1) t
  pub parted : (h : HistoryOf r) →
      ArePartedBy r.table (h.at j) (split_at r.splits.items j).symbol s t
