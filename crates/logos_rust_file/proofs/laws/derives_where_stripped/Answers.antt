use Rattle.logos_rust_file.proofs.DeriveLemmas.{derives-lost}
use Rattle.logos_rust_file.proofs.laws.derives_where_stripped.Goals as goal

pub returns : goal.returns
returns c = λ tokens value reads. derives-lost tokens value reads
