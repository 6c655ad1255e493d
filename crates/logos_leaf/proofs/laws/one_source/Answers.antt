use Rattle.logos_leaf.proofs.agreement.Sources.{source_once}
use Rattle.logos_leaf.proofs.laws.one_source.Goals as goal

pub returns-clause-no_fault : goal.returns-clause-no_fault
returns-clause-no_fault c item o p leaves others faults a b = (source_once a b).0

pub returns-clause-one_set_of_options : goal.returns-clause-one_set_of_options
returns-clause-one_set_of_options c item o p leaves others faults a b = (source_once a b).1

pub returns-clause-one_list : goal.returns-clause-one_list
returns-clause-one_list c item o p leaves others faults a b = (source_once a b).2
