use Rattle.logos_automaton.specs.Measures.{size_of}
use Rattle.logos_graph.specs.View.{rules_of}
use Rattle.logos_causes.specs.Sets.{of_graph}
use Rattle.logos_causes.proofs.SetLemmas.{within}
use Rattle.logos_causes.proofs.explanation.clues_of_leaves.Goals as goal

pub returns-in_ok-clues_of-in-Ok : goal.returns-in_ok-clues_of-in-Ok
returns-in_ok-clues_of-in-Ok c =
    of_graph c.in-Ok.graph.faults (within (size_of (rules_of c.args.leaves.items)) (λ more. (c.in-Ok.ensures.too_large more).0)) c.in-Ok.ensures.graph.faults_are c.in_ok-clues_of-in-Ok.ensures
