use Rattle.std.proofs.Common.{refl, arith, []}
use Rattle.logos_page.proofs.PageLemmas.{gains_nothing, gains_then}
use Rattle.logos_attempts.specs.Partials.{begins}
use Rattle.logos_attempts.proofs.LineLemmas.{next_line}
use Rattle.logos_attempts.proofs.partial_lines.push_lines.Goals as goal

pub loop-rank-init : goal.loop-rank-init
loop-rank-init c = (0, [], omega arith, begins, gains_nothing c.args.page.now)

pub loop-rank-preserved : goal.loop-rank-preserved
loop-rank-preserved c = next_line c.args.start.leaves.now c.args.start.input.now c.args.start.from c.loop-rank.invariant c.in_ok-push_ranked.ensures

pub returns : goal.returns
returns c =
    let h = c.loop-rank.invariant in
    (_, record { count = h.0; few = omega (arith, h.2, c.loop-rank-test.false); lines = h.1; are = h.3; rest = c.as_str.result.now; is = refl }, gains_then h.4 c.push.ensures)
