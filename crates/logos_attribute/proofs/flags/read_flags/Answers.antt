use Rattle.logos_attribute.proofs.ReportLemmas.{report_alone}
use Rattle.logos_attribute.proofs.flags.read_flags.Goals as goal

pub returns-clause-ok : goal.returns-clause-ok
returns-clause-ok c = report_alone _ _ _ _ _ _ c.new-found.ensures c.in_ok-set_flags.ensures c.in_ok-append.ensures.ok
