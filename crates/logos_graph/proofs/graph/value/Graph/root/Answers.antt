use Rattle.std.proofs.Common.{◌≡◌, [], length, subst}
use Rattle.logos_graph.specs.FinishedGraph.{IsFinished}
use Rattle.logos_graph.specs.View.{GraphValue}
use Rattle.logos_graph.proofs.graph.value.Graph.root.Goals as goal

pub returns-clause-finished : goal.returns-clause-finished
returns-clause-finished c = subst (λ (v : GraphValue). v.faults ≡ [] → IsFinished v.states (length v.leaves)) c.self.view_is c.self.invariant.finished
