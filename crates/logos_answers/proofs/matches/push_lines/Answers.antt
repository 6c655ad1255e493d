use Rattle.std.proofs.Common.{None}
use Rattle.logos_answers.specs.Matches.{line_or_none}
use Rattle.logos_answers.proofs.GainLemmas.{next_gained_at, none_gained}
use Rattle.logos_answers.proofs.matches.push_lines.Goals as goal

pub loop-found-preserved : goal.loop-found-preserved
loop-found-preserved c = λ new rest.
    c.loop-found.invariant new (next_gained_at (line_or_none c.args.start.leaves.now c.args.start.input.now c.args.start.from) c.args.longest.now c.loop-found.found-index None c.loop-found-test.true c.push_found.ensures rest)

pub returns : goal.returns
returns c = c.loop-found.invariant _ (none_gained (line_or_none c.args.start.leaves.now c.args.start.input.now c.args.start.from) c.args.longest.now c.loop-found.found-index _ c.loop-found-test.false)
