use Rattle.logos_rust_file.proofs.NameLemmas.{name-read}
use Rattle.logos_rust_file.proofs.laws.names_as_read.Goals as goal

pub returns : goal.returns
returns c = λ tokens value reads. name-read tokens value reads
