-- States in blocks, and the splits of the blocks.
use Rattle.std.specs.Prelude.{◌≡◌, ◌≢◌, ◌+◌, ◌<◌, ◌≤◌, ◌⊎◌, ℕ, List, Option, Some, None, option_map, length, slice_index_or}
use Rattle.logos_reduce.specs.Table.{size, to, mark}
use Rattle.logos_reduce.specs.declared.merge.blocks.Split.{Split}
use Rattle.logos_reduce.specs.declared.table.Table.{Table}

module _ (table : Table) (block : ℕ → ℕ) where
  -- The block to which a state leads.
  abbrev pub target_block : ℕ → ℕ → Option ℕ
  target_block s k = option_map block (to table s k)

  -- The states of a block have equal marks.
  abbrev pub HaveMarks : Type 0
  HaveMarks = (s t : ℕ) → s < size table → t < size table → block s ≡ block t →
      mark table s ≡ mark table t

  -- The states are separated by their marks, or by the blocks to which they lead on a symbol.
  abbrev pub ArePartedBy : Option ℕ → ℕ → ℕ → Type 0
  ArePartedBy None s t = mark table s ≢ mark table t
  ArePartedBy (Some k) s t = target_block s k ≢ target_block t k

-- The first states are in blocks below `m`.
abbrev pub IsWithin : ℕ → (ℕ → ℕ) → ℕ → Type 0
IsWithin n block m = (s : ℕ) → s < n → block s < m

-- The split that made block `j`.
abbrev pub split_at : List Split → ℕ → Split
split_at splits j = slice_index_or splits j (record { parent = 0; symbol = None })

-- The history of the blocks, which were made from one: block `j` was separated from its parent when
-- there were `j` blocks.
pub record IsHistory (table : Table) (splits : List Split) (block : ℕ → ℕ) : Type 0 where
  -- The block of a state when there were `j` blocks.
  pub at : ℕ → ℕ → ℕ
  pub last : (s : ℕ) → s < size table → at (length splits) s ≡ block s
  pub below : (j s : ℕ) → 0 < j → j ≤ length splits → s < size table → at j s < j
  pub step : (j s : ℕ) → 0 < j → j < length splits → s < size table →
      (at (j + 1) s ≡ at j s) ⊎ ((at (j + 1) s ≡ j) × (at j s ≡ (split_at splits j).parent))
  pub parted : (j s t : ℕ) → 0 < j → j < length splits → s < size table → t < size table →
      at (j + 1) s ≡ j → at (j + 1) t ≡ (split_at splits j).parent →
      ArePartedBy table (at j) (split_at splits j).symbol s t

-- The blocks were made by splits, and the states of each have equal marks.
pub record IsSound (table : Table) (splits : List Split) (block : ℕ → ℕ) : Type 0 where
  pub history : IsHistory table splits block
  pub marks : HaveMarks table block

-- Each state's block has a leader in it.
abbrev pub AreLeaders : ℕ → (ℕ → ℕ) → (ℕ → ℕ) → Type 0
AreLeaders n block leader = (s : ℕ) → s < n →
    (leader (block s) < n) × (block (leader (block s)) ≡ block s)

-- The blocks are sound, and each state leads on each symbol to the block to which the leader of its
-- block leads.
pub record IsMerged (table : Table) (splits : List Split) (block leader : ℕ → ℕ) : Type 0 where
  pub sound : IsSound table splits block
  pub within : IsWithin (size table) block (length splits)
  pub leaders : AreLeaders (size table) block leader
  pub alike : (s k : ℕ) → s < size table →
      target_block table block s k ≡ target_block table block (leader (block s)) k
