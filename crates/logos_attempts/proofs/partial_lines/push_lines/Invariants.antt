use Rattle.logos_attempts.proofs.LineLemmas.{HasLines}
use Rattle.logos_attempts.proofs.partial_lines.push_lines.Given as goal

-- each rank so far has at most one line
abbrev pub invariant-loop-rank : goal.invariant-loop-rank
invariant-loop-rank l = HasLines l.start.leaves.now l.start.input.now l.start.from l.rank l.initial.page l.page
