use Rattle.logos_report.proofs.ReportLemmas.{ends_after}
use Rattle.logos_report.proofs.notes.push_leaf_location.Goals as goal

pub returns : goal.returns
returns c = ends_after c.push_leaf_at.ensures c.push.ensures
