use Rattle.logos_type_reader.proofs.ReadingLemmas.{type_rest}
use Rattle.logos_type_reader.proofs.laws.type_is_front.Goals as goal

pub returns-clause-rest : goal.returns-clause-rest
returns-clause-rest c run rest tree h = (type_rest h).is

pub returns-clause-shorter : goal.returns-clause-shorter
returns-clause-shorter c run rest tree h = (type_rest h).less
