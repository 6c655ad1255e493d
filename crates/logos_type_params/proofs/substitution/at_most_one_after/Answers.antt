use Rattle.logos_type_params.proofs.SubstitutionLaws.{one_after, deeper}
use Rattle.logos_type_params.proofs.substitution.at_most_one_after.Goals as goal

pub returns-clause-one : goal.returns-clause-one
returns-clause-one c params levels others part after other h k = one_after params h k

pub returns-clause-deeper : goal.returns-clause-deeper
returns-clause-deeper c params levels others part after h k = deeper params h k
