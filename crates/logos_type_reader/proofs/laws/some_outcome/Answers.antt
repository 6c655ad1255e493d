use Rattle.std.proofs.Common.{true}
use Rattle.logos_type_reader.proofs.ReadingTotal.{type_or_fault}
use Rattle.logos_type_reader.proofs.laws.some_outcome.Goals as goal

pub returns : goal.returns
returns c run = type_or_fault 128 true run
