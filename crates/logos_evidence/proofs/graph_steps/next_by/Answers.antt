use Rattle.std.proofs.Common.{Option, option_map, option_and_then, sym, ap, ◌∙◌}
use Rattle.std.specs.Prelude.{find}
use Rattle.logos_graph.specs.Graph.{GraphState}
use Rattle.logos_hir.specs.ByteRanges.{is_in}
use Rattle.logos_evidence.proofs.ShownLemmas.{shown_at}
use Rattle.logos_evidence.proofs.graph_steps.next_by.Goals as goal

pub returns : goal.returns
returns c =
    let lookup = c.in_ok-data.ensures.lookup in
    let at = shown_at c.args.states.now c.args.state c.in_ok-data.data.now lookup.3.0 lookup.3.1 in
    c.in_ok-target.ensures ∙
    ap (λ (o : Option GraphState). option_and_then (λ state. option_map (λ edge. edge.1) (find (λ edge. is_in edge.0 c.args.byte) state.normal)) o) (sym at)
