use Rattle.std.proofs.Common.{string_bytes}
use Rattle.logos_text.specs.Occurrence.{Grows}
use Rattle.logos_text.proofs.macros.push_block_tests.Given as goal

abbrev pub invariant-loop-index : goal.invariant-loop-index
invariant-loop-index l = Grows (string_bytes l.initial.text) (string_bytes l.text)
