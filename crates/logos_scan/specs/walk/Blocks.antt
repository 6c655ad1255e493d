-- Walks of the six blocks of a chunk.
use Rattle.std.specs.Prelude.{ℕ, ◌+◌, ◌*◌, ◌<◌, List, slice_index}
use Rattle.logos_scan.specs.walk.Walk.{IsRowStart, Walked}

-- A whole row begins at each of the row offsets.
abbrev pub AreRowStarts : List ℕ → List ℕ → Type 0
AreRowStarts rows row_starts = (b : ℕ) → b < 6 → IsRowStart rows (slice_index row_starts b)

-- The trace holds a walk over the first `count` bytes of the block, from its row in the first list
-- to its row in the second.
abbrev pub IsWalked : List ℕ → List ℕ → List ℕ → List ℕ → ℕ → List ℕ → ℕ → Type 0
IsWalked rows text from trace count to b = Walked rows text (slice_index from b) trace (768 * b) (count + 768 * b) (slice_index to b)

-- The trace holds a walk over the first `count` bytes of each block.
abbrev pub AreWalked : List ℕ → List ℕ → List ℕ → List ℕ → ℕ → List ℕ → Type 0
AreWalked rows text from trace count to = (b : ℕ) → b < 6 → IsWalked rows text from trace count to b
