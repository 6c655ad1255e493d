use Rattle.std.proofs.Common.{◌≡◌, ◌+◌, ◌-◌, ◌*◌, ◌^◌, ◌<◌}
use Rattle.logos_generator.specs.Numbering.{bits_from}
use Rattle.logos_generator.proofs.generator.tests_by_bits.entry_of.Given as goal

-- the bits of the higher tests
abbrev pub invariant-loop-i : goal.invariant-loop-i
invariant-loop-i l = (l.bits < 2 ^ l.i) × (l.bits ≡ bits_from l.tests l.b (8 * l.j + 8 - l.i) l.i)
