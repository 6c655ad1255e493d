use Rattle.logos_type_reader.proofs.ReadingLaws.{one_type, refused_type}
use Rattle.logos_type_reader.proofs.laws.levels_only_limit.Goals as goal

pub returns-clause-one_type : goal.returns-clause-one_type
returns-clause-one_type c levels others plus run rest other tree different h k = one_type h k

pub returns-clause-deeper : goal.returns-clause-deeper
returns-clause-deeper c levels others plus run rest tree fault h k = refused_type h k
