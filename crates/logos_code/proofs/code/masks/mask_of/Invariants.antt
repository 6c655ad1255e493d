use Rattle.std.proofs.Common.{◌≡◌, ℕ, ◌+◌, ◌*◌, ◌/◌, ◌%◌, ◌<◌, length}
use Rattle.logos_code.specs.Bytes.{has_bit, passes_test}
use Rattle.logos_code.proofs.code.masks.mask_of.Given as goal

-- the entries so far are there
abbrev pub invariant-loop-at : goal.invariant-loop-at
invariant-loop-at l = (length l.mask ≡ 32) × ((at : ℕ) → at < l.at → (k : ℕ) → k < 8 →
    has_bit l.mask k at ≡ passes_test l.parts.bit_tables.items l.test (128 * (at / 16) + at % 16 + 16 * k))
