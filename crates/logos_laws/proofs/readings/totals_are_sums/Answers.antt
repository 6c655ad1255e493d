use Rattle.logos_laws.proofs.readings.VariantSums.{whole}
use Rattle.logos_laws.proofs.readings.totals_are_sums.Goals as goal

pub returns : goal.returns
returns c leaves counts from size last total left are = whole leaves counts from size last total left are
