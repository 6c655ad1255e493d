use Rattle.std.proofs.Common.{◌<◌, arith}
use Rattle.std.proofs.lemmas.List.Elements.{All-from_get_or}
use Rattle.logos_hir.specs.Text.{IsBytes}
use Rattle.logos_graph.proofs.EvidenceLemmas.{distinguishes_shown}
use Rattle.logos_graph.proofs.graph.value.Graph.checks.Goals as goal

pub returns : goal.returns
returns c =
    let shows = c.reduced.ensures.shows in
    let n = shows.states in
    let ok : IsBytes c.args.bytes.now = All-from_get_or (λ b. b < 256) c.args.bytes.now 0 (λ i l. let f = c.type_inv.bytes i in omega (arith, f)) in
    let distinguishes = distinguishes_shown c.reduced.result.now.table c.args.self.now.states shows c.args.s.0 c.args.t.0 c.args.bytes.now c.args.at_end ok
    (omega (arith, n, c.requires.s_in)) (omega (arith, n, c.requires.t_in)) in (
      λ w. distinguishes.0 (c.checks.ensures.0 w),
      λ w. c.checks.ensures.1 (distinguishes.1 w),
    )
