use Rattle.std.proofs.Common.{string_bytes}
use Rattle.logos_text.specs.Occurrence.{Grows}
use Rattle.logos_text.proofs.forks.push_jumps.Given as goal

abbrev pub invariant-loop-byte : goal.invariant-loop-byte
invariant-loop-byte l = Grows (string_bytes l.initial.text) (string_bytes l.text)
