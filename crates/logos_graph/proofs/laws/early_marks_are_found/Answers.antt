use Rattle.logos_graph.proofs.MarkLaws.{early_found}
use Rattle.logos_graph.proofs.laws.early_marks_are_found.Goals as goal

pub returns : goal.returns
returns c = early_found
