use Rattle.logos_type_reader.proofs.ReadingLemmas.{type_rest}
use Rattle.logos_type_reader.proofs.reader.read_type.Goals as goal

pub returns-clause-shorter : goal.returns-clause-shorter
returns-clause-shorter c = (type_rest c.in_ok-part.ensures.ok).less
