-- The meaning of folded rows for a code.
use Rattle.std.specs.Prelude.{◌≡◌, ℕ, ◌+◌, ◌*◌, ◌/◌, ◌%◌, ◌<◌, ◌≤◌, ◌⊎◌, true, false, List, length, Some, slice_index}
use Rattle.logos_scan.specs.walk.Walk.{IsClosed, row_start_of}
use Rattle.std.specs.Int.{bit_at}
use Rattle.logos_code.specs.Code.{CodeValue}
use Rattle.logos_code.specs.CodeView.{state_at}
use Rattle.logos_code.specs.Headline.{IsSound}
use Rattle.logos_code.specs.Rows.{Describes}
use Rattle.logos_code.specs.Runs.{stays, target}
use Rattle.logos_code.specs.declared.code.rows.MatchUse.{MatchUse}
use Rattle.logos_code.specs.declared.code.rows.MatchUse.TheVariants.{Emits, Skips, CallsBack}
use Rattle.logos_code.specs.declared.code.rows.Step.TheVariants.{Halts, Looks}

-- A code with its folded rows.
pub record FoldedValue : Type 0 where
  pub code : CodeValue
  pub rows : List ℕ

-- Folded entries can represent all states of the code.
abbrev pub IsFew : CodeValue → Type 0
IsFew code = 272 * length code.states ≤ 1048576

-- Folded entries cannot represent all states of the code.
abbrev pub IsMany : CodeValue → Type 0
IsMany code = 3855 < length code.states

-- An attempt that is in the first state before the byte is in the second state after it: the byte
-- passes the test of the fast loop, or it leads there.
abbrev pub TakesTo : CodeValue → ℕ → ℕ → ℕ → Type 0
TakesTo code s b next =
    let loop = (state_at code s).fast_loop in
    ((stays code loop b ≡ true) × (next ≡ s)) ⊎ ((stays code loop b ≡ false) × (target code (state_at code s).fork b ≡ Some next))

-- This is the row offset of the state of an attempt after the byte.
pub record Goes (code : CodeValue) (s b row_start : ℕ) : Type 0 where
  pub next : ℕ
  pub there : next < length code.states
  pub is : row_start ≡ 272 * next
  pub takes : TakesTo code s b next

-- The leaf of an entry: nine bits from the twentieth on.
abbrev pub leaf_of : ℕ → ℕ
leaf_of entry = entry / 1048576 % 512

-- The flags of an entry before whose byte a match ends.
abbrev pub flags_of : MatchUse → ℕ
flags_of Emits = 3221225472
flags_of Skips = 2147483648
flags_of CallsBack = 3758096384

-- The bits of the flags represent the use of the match.
abbrev pub HasUse : ℕ → MatchUse → Type 0
HasUse entry Emits = (bit_at entry 30 ≡ 1) × (bit_at entry 29 ≡ 0)
HasUse entry Skips = bit_at entry 30 ≡ 0
HasUse entry CallsBack = (bit_at entry 30 ≡ 1) × (bit_at entry 29 ≡ 1)

-- The entry of a byte before which a match of the leaf ends, where the next attempt is in the state
-- at this row offset after the byte.
pub record IsEnded (entry leaf : ℕ) (used : MatchUse) (row_start : ℕ) : Type 0 where
  pub ended : bit_at entry 31 ≡ 1
  pub has_use : HasUse entry used
  pub is_leaf : leaf_of entry ≡ leaf
  pub is_row_start : row_start_of entry ≡ row_start

-- In the state, a match of the entry's leaf ends before the byte.
pub record EndsAs (code : CodeValue) (s b entry : ℕ) : Type 0 where
  pub used : MatchUse
  pub has_use : HasUse entry used
  pub describes : Describes code (state_at code s) b (Halts (record { 0 = leaf_of entry }) used) ⊎ Describes code (state_at code s) b (Looks (record { 0 = leaf_of entry }) used)

-- The folded entry of a byte in a state. Without flags it has the row offset of the state after the
-- byte. With the flag of an end, a match of its leaf ends before the byte, and it has the row
-- offset of the state after the byte in the attempt that begins there. With only the other flag it
-- does not describe the step.
pub record IsFolded (code : CodeValue) (s b entry : ℕ) : Type 0 where
  pub goes : bit_at entry 31 ≡ 0 → bit_at entry 30 ≡ 0 → Goes code s b (row_start_of entry)
  pub ends : bit_at entry 31 ≡ 1 → EndsAs code s b entry × Goes code code.root b (row_start_of entry)

-- A row begins at this row offset.
abbrev pub IsWithin : CodeValue → ℕ → Type 0
IsWithin code row_start = row_start + 255 < 272 * length code.states

-- The row has the folded entry of each byte.
pub record IsFoldedRow (code : CodeValue) (s : ℕ) (row : List ℕ) : Type 0 where
  pub each : (b : ℕ) → b < 256 → IsFolded code s b (slice_index row b)
  pub within : (k : ℕ) → k < 272 → IsWithin code (row_start_of (slice_index row k))

-- The folded rows of all states, one after another.
pub record AreFolded (code : CodeValue) (rows : List ℕ) : Type 0 where
  pub sound : IsSound code
  pub count : length rows ≡ 272 * length code.states
  pub closed : IsClosed rows
  pub each : (s b : ℕ) → s < length code.states → b < 256 → IsFolded code s b (slice_index rows (272 * s + b))
