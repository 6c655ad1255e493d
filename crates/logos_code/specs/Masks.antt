-- The views of the masks of tests in contracts.
use Rattle.std.specs.Prelude.{◌≡◌, ℕ, ◌+◌, ◌*◌, ◌/◌, ◌%◌, ◌<◌, Bool, List, [], length, slice_index_or}
use Rattle.logos_code.specs.Bytes.{has_bit, passes_test}
use Rattle.logos_code.specs.Code.{CodeValue}

-- Bit `b / 16 mod 8` of entry `16 * (b / 128) + b mod 16` is set if byte `b` passes the test.
abbrev pub IsMask : (ℕ → Bool) → List ℕ → Type 0
IsMask test mask = (b : ℕ) → b < 256 → has_bit mask (b / 16 % 8) (16 * (b / 128) + b % 16) ≡ test b

-- The mask of each test.
pub record AreMasks (code : CodeValue) (masks : List (List ℕ)) : Type 0 where
  pub count : length masks ≡ 8 * length code.bit_tables
  pub each : (k : ℕ) → k < 8 * length code.bit_tables → IsMask (passes_test code.bit_tables k) (slice_index_or masks k [])
