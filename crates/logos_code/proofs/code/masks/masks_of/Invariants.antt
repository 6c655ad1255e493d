use Rattle.std.proofs.Common.{ℕ, ◌*◌, ◌-◌, ◌<◌, ◌≤◌, [], length, slice_index_or}
use Rattle.logos_code.specs.Bytes.{passes_test}
use Rattle.logos_code.specs.Masks.{IsMask}
use Rattle.logos_code.proofs.code.masks.masks_of.Given as goal

-- the tests so far have their masks
abbrev pub invariant-loop-masks : goal.invariant-loop-masks
invariant-loop-masks l = record {
  few : length l.masks.items ≤ 8 * length l.parts.bit_tables.items;
  each : (k : ℕ) → k < length l.masks.items → IsMask (passes_test l.parts.bit_tables.items k) (slice_index_or l.masks.items k []);
}

abbrev pub decreases-loop-masks : goal.decreases-loop-masks
decreases-loop-masks l = 8 * length l.parts.bit_tables.items - length l.masks.items
