use Rattle.logos_attribute.proofs.ReportLemmas.{listed_then}
use Rattle.logos_definition.proofs.parser.faults.report_twice.Goals as goal

pub returns : goal.returns
returns c = listed_then _ _ _ _ _ c.in_ok-err.ensures.ok c.in_ok-err-2.ensures.ok
