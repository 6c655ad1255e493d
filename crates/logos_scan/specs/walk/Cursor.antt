-- The pending entries in a trace, and the state of a cursor over its flags.
use Rattle.std.specs.Prelude.{◌≡◌, ℕ, zero, suc, ◌+◌, ◌-◌, ◌*◌, ◌^◌, ◌<◌, ◌≤◌, ◌⊎◌, List, slice_index}
use Rattle.std.specs.Int.{bit_at}
use Rattle.std.specs.Int.Count.{count_leading_zeros}

-- 1 at a pending entry, and 0 otherwise.
abbrev pub token_bit : List ℕ → ℕ → ℕ
token_bit trace k = bit_at (slice_index trace k) 30

-- 1 at an entry before whose byte a match ends, and 0 otherwise.
abbrev pub end_bit : List ℕ → ℕ → ℕ
end_bit trace k = bit_at (slice_index trace k) 31

-- No entry is pending from `from` up to `to`.
abbrev pub NoToken : List ℕ → ℕ → ℕ → Type 0
NoToken trace from to = (k : ℕ) → from ≤ k → k < to → token_bit trace k ≡ 0

-- No match ends before these entries.
abbrev pub NoEnd : List ℕ → ℕ → ℕ → Type 0
NoEnd trace from to = (k : ℕ) → from ≤ k → k < to → end_bit trace k ≡ 0

-- The first pending entry from `from` on.
pub record IsNext (trace : List ℕ) (from at : ℕ) : Type 0 where
  pub after : from ≤ at
  pub within : at < 4608
  pub token : token_bit trace at ≡ 1
  pub first : NoToken trace from at

-- The last end from `from` on, before `at`.
pub record IsLastEnd (trace : List ℕ) (from at last : ℕ) : Type 0 where
  pub after : from ≤ last
  pub before : last < at
  pub ended : end_bit trace last ≡ 1
  pub none : NoEnd trace (last + 1) at

-- The start of the attempt that is active before `at`: the last end from `from` on, or the start of
-- the attempt that is active before `from`.
abbrev pub StartsAt : (base : ℕ) (trace : List ℕ) (from start at now : ℕ) → Type 0
StartsAt base trace from start at now = ((now ≡ start) × NoEnd trace from at) ⊎ ((last : ℕ) × IsLastEnd trace from at last × (now ≡ base + last))

-- The offset of the end of the chunk fits in 64 bits.
abbrev pub HasRoom : ℕ → Type 0
HasRoom base = base + 4608 < 2 ^ 64

-- The bits of a word for entries before `from` are 0, and the others are a flag of the entries.
pub record IsLeft (flag : ℕ) (trace : List ℕ) (word bits from : ℕ) : Type 0 where
  pub earlier : (i : ℕ) → i < 64 → 64 * word + i < from → bit_at bits i ≡ 0
  pub ahead : (i : ℕ) → i < 64 → from ≤ 64 * word + i → bit_at bits i ≡ bit_at (slice_index trace (64 * word + i)) flag

-- The bits are the ends of a word from `from` on, before `at`.
pub record IsUnder (trace : List ℕ) (word from at bits : ℕ) : Type 0 where
  pub near : 64 * word ≤ from
  pub far : at ≤ 64 * word + 64
  pub earlier : (i : ℕ) → i < 64 → 64 * word + i < from → bit_at bits i ≡ 0
  pub below : (i : ℕ) → i < 64 → from ≤ 64 * word + i → 64 * word + i < at → bit_at bits i ≡ end_bit trace (64 * word + i)
  pub above : (i : ℕ) → i < 64 → at ≤ 64 * word + i → bit_at bits i ≡ 0

-- The start of the attempt that is active after ends of a word, given their bits: the highest of
-- them, or the earlier start if there is none.
abbrev pub start_by : (here start bits : ℕ) → ℕ
start_by here start zero = start
start_by here start (suc bits) = here + (63 - count_leading_zeros 64 (suc bits))

-- The flags of a word: the tokens from an entry of the word on, and the ends from an earlier entry
-- on.
pub record Awaits (trace : List ℕ) (word tokens ends from : ℕ) : Type 0 where
  pub within : word < 72
  pub far : from ≤ 64 * word + 64
  pub tokens_left : IsLeft 30 trace word tokens from
  pub first : ℕ
  pub near : 64 * word ≤ first
  pub order : first ≤ from
  pub ends_left : IsLeft 31 trace word ends first
