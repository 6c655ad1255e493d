use Rattle.logos_lines.specs.Starts.{AreStartsTo}
use Rattle.logos_lines.proofs.index.line_starts.Given as goal

abbrev pub invariant-loop-at : goal.invariant-loop-at
invariant-loop-at l = AreStartsTo l.bytes l.starts.items l.at
