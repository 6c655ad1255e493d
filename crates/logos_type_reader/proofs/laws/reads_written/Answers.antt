use Rattle.logos_type_reader.proofs.WrittenReads.{type_occurs}
use Rattle.logos_type_reader.proofs.laws.reads_written.Goals as goal

pub returns : goal.returns
returns c levels plus run rest tree ending w f = type_occurs w f
