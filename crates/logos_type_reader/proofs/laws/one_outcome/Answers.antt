use Rattle.logos_type_reader.proofs.ReadingLaws.{one_type, one_fault, refused_type, not_less}
use Rattle.logos_type_reader.proofs.laws.one_outcome.Goals as goal

pub returns-clause-one_type : goal.returns-clause-one_type
returns-clause-one_type c run rest other tree different h k = one_type h k

pub returns-clause-one_fault : goal.returns-clause-one_fault
returns-clause-one_fault c run fault other h k = one_fault h k

pub returns-clause-not_both : goal.returns-clause-not_both
returns-clause-not_both c run rest tree fault h k = not_less (refused_type k h)
