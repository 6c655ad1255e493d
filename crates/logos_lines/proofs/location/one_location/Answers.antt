use Rattle.logos_lines.proofs.LocationLemmas.{one_location}
use Rattle.logos_lines.proofs.location.one_location.Goals as goal

pub returns : goal.returns
returns c = one_location
