use Rattle.std.proofs.Common.{map, ap, ◌∙◌}
use Rattle.logos_graph.specs.GraphView.{edge_of}
use Rattle.logos_reduce.specs.Table.{to, type_of}
use Rattle.logos_reduce.specs.Rows.{target_by}
use Rattle.logos_graph.proofs.StateLemmas.{edges_same}
use Rattle.logos_graph.proofs.graph.states.state_of.Goals as goal

pub returns-clause-state : goal.returns-clause-state
returns-clause-state c = record {
  type = c.type_of_mark.ensures ∙ ap type_of c.mark.ensures;
  edges = edges_same (target_by c.row.result.now) (to c.args.table.now c.args.s) (map edge_of c.in_ok-normal.normal.items) c.row.ensures.row c.in_ok-normal.ensures;
  end = c.state.ensures ∙ c.target.ensures;
}
