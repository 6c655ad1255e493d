use Rattle.logos_positions.proofs.steps.MarkLemmas.{any_marked}
use Rattle.logos_positions.proofs.positions.set.any_mark.Goals as goal

pub returns-then-i-marks : goal.returns-then-i-marks
returns-then-i-marks c = any_marked _ _ _ _ c.requires c.first_from-i.ensures c.if-i-marks.true
