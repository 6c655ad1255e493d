use Rattle.logos_strip.proofs.once.OnceLemmas.{stripped-once}
use Rattle.logos_strip.proofs.once.BareLemmas.{bare-once}
use Rattle.logos_strip.proofs.laws.strips_once.Goals as goal

pub returns-clause-same : goal.returns-clause-same
returns-clause-same c = stripped-once

pub returns-clause-again : goal.returns-clause-again
returns-clause-again c = bare-once
