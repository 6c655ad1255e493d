use Rattle.std.proofs.Common.{string_bytes}
use Rattle.logos_text.specs.Occurrence.{Grows}
use Rattle.logos_text.proofs.forks.push_next_arms.Given as goal

abbrev pub invariant-loop-n : goal.invariant-loop-n
invariant-loop-n l = Grows (string_bytes l.initial.text) (string_bytes l.text)
