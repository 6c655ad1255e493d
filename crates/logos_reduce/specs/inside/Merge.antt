-- Blocks while they are split.
use Rattle.std.specs.Prelude.{◌≡◌, ◌≢◌, ◌<◌, ◌≤◌, ◌⊎◌, ℕ, List, [], ◌∷◌, nat_lt, if◌then◌else◌, Option, Some, None, length, slice_get, slice_index}
use Rattle.logos_reduce.specs.Merge.{ArePartedBy, IsWithin, split_at}
use Rattle.logos_reduce.specs.Table.{size, mark}
use Rattle.logos_reduce.specs.declared.merge.blocks.Split.{Split}
use Rattle.logos_reduce.specs.declared.table.StateMarks.{StateMarks}
use Rattle.logos_reduce.specs.declared.table.Table.{Table}

-- Each block of the first list is a block of the second, or a part of one.
abbrev pub IsFiner : ℕ → (ℕ → ℕ) → (ℕ → ℕ) → Type 0
IsFiner n fine block = (s t : ℕ) → s < n → t < n → fine s ≡ fine t → block s ≡ block t

-- A state is in a new block, together with the states of its block that lead to the same block, or
-- has not moved.
abbrev pub IsLanding : ℕ → Option ℕ → ℕ → ℕ → Option ℕ → ℕ → Type 0
IsLanding home to fresh block target new =
    ((block ≡ home) × (target ≡ to) × (new ≡ fresh))
    ⊎ (((block ≢ home) ⊎ (target ≢ to)) × (new ≡ block))

-- The new block of each block whose hit states have left it because of the symbol.
pub record AreTwins (fresh k : ℕ) (twins : List ℕ) (splits : List Split) : Type 0 where
  pub named : (c : ℕ) → fresh ≤ slice_index twins c →
      (slice_index twins c < length splits) × ((split_at splits (slice_index twins c)).parent ≡ c)
  pub paired : (j : ℕ) → fresh ≤ j → j < length splits →
      slice_index twins (split_at splits j).parent ≡ j
  pub older : (j : ℕ) → fresh ≤ j → j < length splits → (split_at splits j).parent < fresh
  pub by : (j : ℕ) → fresh ≤ j → j < length splits → (split_at splits j).symbol ≡ Some k

-- The old list of splits is a prefix of the new one.
pub record Continues (old new : List Split) : Type 0 where
  pub longer : length old ≤ length new
  pub same : (j : ℕ) → j < length old → split_at new j ≡ split_at old j

-- A leaf as two numbers: whether there is one, and its number.
abbrev pub tagged : Option ℕ → ℕ × ℕ
tagged None = (0, 0)
tagged (Some leaf) = (1, leaf)

-- The key of a mark.
abbrev pub key_of : StateMarks → List ℕ
key_of m = (tagged m.accept).0 ∷ (tagged m.accept).1 ∷ (tagged m.early).0 ∷ (tagged m.early).1 ∷ []

-- The blocks of the first `n` states are the numbers of the keys of their marks.
pub record AreKeyNumbers (table : Table) (n : ℕ) (blocks : List ℕ)
    (keys : List (List ℕ)) : Type 0 where
  pub keyed : (s : ℕ) → s < n → slice_get keys (slice_index blocks s) ≡ Some (key_of (mark table s))
  pub distinct : (i j : ℕ) (key : List ℕ) → slice_get keys i ≡ Some key →
      slice_get keys j ≡ Some key → i ≡ j

-- The block from which a block was separated, if it is not one of the first blocks.
abbrev pub block_before : List Split → ℕ → ℕ → ℕ
block_before splits fresh c = if nat_lt c fresh then c else (split_at splits c).parent

-- The new blocks are the old ones, some of which some states have left, each for the reason in its
-- split.
pub record IsExtension (table : Table) (splits more : List Split) (old new : ℕ → ℕ) : Type 0 where
  pub continues : Continues splits more
  pub within : IsWithin (size table) new (length more)
  pub before : (s : ℕ) → s < size table → old s ≡ block_before more (length splits) (new s)
  pub older : (j : ℕ) → length splits ≤ j → j < length more →
      (split_at more j).parent < length splits
  pub parted : (j s t : ℕ) → length splits ≤ j → j < length more → s < size table → t < size table →
      new s ≡ j → new t ≢ j → old t ≡ (split_at more j).parent →
      ArePartedBy table old (split_at more j).symbol s t
