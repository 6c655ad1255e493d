-- The result of reducing a table.
use Rattle.std.specs.Prelude.{◌≡◌, ◌≢◌, ◌<◌, ◌≤◌, ◌⊎◌, ℕ, List, Some, length}
use Rattle.logos_reduce.specs.Merge.{IsMerged}
use Rattle.logos_reduce.specs.Number.{IsNumbered}
use Rattle.logos_reduce.specs.Prune.{IsOfUse, IsPrunedTable}
use Rattle.logos_reduce.specs.Settle.{IsSettled}
use Rattle.logos_reduce.specs.Table.{size, to, mark}
use Rattle.logos_reduce.specs.SymbolWords.{WordDistinguishes}
use Rattle.logos_reduce.specs.declared.reduction.Reduction.{Reduction}
use Rattle.logos_reduce.specs.declared.table.Table.{Table}

-- The old table, with its marks settled, without its useless edges, and with its states merged, is
-- numbered from the root on.
pub record IsReductionOf (old : Table) (root : ℕ) (r : Reduction) : Type 0 where
  -- The table with early marks, and without redundant late marks.
  pub marked : Table
  pub settled : IsSettled old marked
  -- That table without the edges to states that have no mark and do not lead to one.
  pub useful : Table
  pub pruned : IsPrunedTable marked useful
  -- The block of each state, and a state of each block.
  pub block : ℕ → ℕ
  pub leader : ℕ → ℕ
  pub merged : IsMerged useful r.splits.items block leader
  -- The blocks to which the root leads, as states.
  pub numbered : IsNumbered useful block leader root r.blocks.items r.table

module _ (table : Table) where
  -- A word with fewer symbols than there are states distinguishes any two different states.
  abbrev pub IsLeast : Type 0
  IsLeast = (s t : ℕ) → s < size table → t < size table → s ≢ t →
      (word : List ℕ) × (length word < size table) × WordDistinguishes table s t word

  -- The first edge into a state, by source number, then bytes ascending, then the end.
  pub record IsFirstEdge (t s k : ℕ) : Type 0 where
    pub edge : to table s k ≡ Some t
    pub first : (r l : ℕ) → to table r l ≡ Some t → (s < r) ⊎ ((s ≡ r) × (k ≤ l))

  -- The first edges into the states 1, 2, 3 and so on come in this order, each from a state with a
  -- lower number.
  pub record IsInOrder : Type 0 where
    pub entered : (t : ℕ) → 0 < t → t < size table → (s k : ℕ) × (s < t) × IsFirstEdge t s k
    pub rises : (t u s k r l : ℕ) → 0 < t → t < u → IsFirstEdge t s k → IsFirstEdge u r l →
        (s < r) ⊎ ((s ≡ r) × (k < l))

  -- Each state but the first has a mark or leads to one, and each late mark is needed on some edge.
  pub record IsSpareless : Type 0 where
    pub of_use : (s : ℕ) → 0 < s → s < size table → IsOfUse table s
    pub needed : (t leaf : ℕ) → (mark table t).accept ≡ Some leaf →
        (s k : ℕ) × (to table s k ≡ Some t) × ((mark table s).early ≢ Some leaf)
