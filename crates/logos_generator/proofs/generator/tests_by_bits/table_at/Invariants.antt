use Rattle.std.proofs.Common.{◌≡◌, ℕ, ◌*◌, ◌<◌, length, slice_index}
use Rattle.logos_generator.specs.Numbering.{bits_from}
use Rattle.logos_generator.proofs.generator.tests_by_bits.table_at.Given as goal

abbrev pub invariant-loop-b : goal.invariant-loop-b
invariant-loop-b l = (length l.table ≡ 256) × ((k : ℕ) → k < l.b → slice_index l.table k ≡ bits_from l.tests k (8 * l.j) 8)
