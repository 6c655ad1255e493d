use Rattle.logos_type_reader.proofs.ReadWritten.{type_written}
use Rattle.logos_type_reader.proofs.laws.read_is_written.Goals as goal

pub returns : goal.returns
returns c levels plus run rest tree h = type_written h
