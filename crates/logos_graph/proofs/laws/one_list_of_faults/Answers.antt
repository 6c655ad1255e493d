use Rattle.logos_automaton.proofs.ambiguity.OneFaults.{faults_once}
use Rattle.logos_graph.proofs.laws.one_list_of_faults.Goals as goal

pub returns : goal.returns
returns c = faults_once
