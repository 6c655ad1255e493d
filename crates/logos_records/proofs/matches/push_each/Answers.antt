use Rattle.std.proofs.Common.{None}
use Rattle.logos_json.proofs.LineLemmas.{next_put, none_put}
use Rattle.logos_records.specs.Matches.{match_lines}
use Rattle.logos_records.proofs.matches.push_each.Goals as goal

pub loop-found-preserved : goal.loop-found-preserved
loop-found-preserved c = λ new rest.
    c.loop-found.invariant new (next_put (match_lines c.args.start.leaves.now c.args.start.input.now c.args.start.from c.args.start.winner) c.args.longest.now c.loop-found.found-index None c.loop-found-test.true c.push_found.ensures rest)

pub returns : goal.returns
returns c = c.loop-found.invariant _ (none_put (match_lines c.args.start.leaves.now c.args.start.input.now c.args.start.from c.args.start.winner) c.args.longest.now c.loop-found.found-index _ c.loop-found-test.false)
