use Rattle.std.proofs.Common.{◌≡◌, map}
use Rattle.std.specs.List.{range_with_len}
use Rattle.logos_generator.specs.Numbering.{bit_table}
use Rattle.logos_generator.proofs.generator.tests_by_bits.tables_of.Given as goal

abbrev pub invariant-loop-j : goal.invariant-loop-j
invariant-loop-j l = l.tables.items ≡ map (bit_table l.tests) (range_with_len 0 l.j)
