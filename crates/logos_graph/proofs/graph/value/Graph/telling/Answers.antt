use Rattle.std.proofs.Common.{arith}
use Rattle.logos_graph.proofs.EvidenceLemmas.{evidence_shown}
use Rattle.logos_graph.proofs.graph.value.Graph.telling.Goals as goal

pub returns : goal.returns
returns c =
    let shows = c.reduced.ensures.shows in
    let n = shows.states in
    evidence_shown c.reduced.result.now.table c.args.self.now.states shows c.args.s.0 c.args.t.0 c.in_ok-bytes.bytes.items c.in_ok-bytes.at_end
    (omega (arith, n, c.requires.s_in)) (omega (arith, n, c.requires.t_in)) c.in_ok-bytes.ensures
