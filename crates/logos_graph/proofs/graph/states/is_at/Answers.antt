use Rattle.std.proofs.Common.{◌<◌, length, arith}
use Rattle.std.proofs.lemmas.Bool.Decides.{nat_tests}
use Rattle.logos_graph.proofs.EdgeLemmas.{target_at}
use Rattle.logos_graph.proofs.graph.states.is_at.Goals as goal

pub returns-clause-hit : goal.returns-clause-hit
returns-clause-hit c = λ t.
    let l : c.args.slot < length c.args.edges.now = omega arith in
    (l, rw (target_at c.args.edges.now c.args.slot c.index-edges-slot.result l) (grind (arith, nat_tests, t)))

pub returns-clause-miss : goal.returns-clause-miss
returns-clause-miss c = λ f l.
    rw (target_at c.args.edges.now c.args.slot c.index-edges-slot.result l) (λ e. absurd (grind (arith, nat_tests, f, e)))
