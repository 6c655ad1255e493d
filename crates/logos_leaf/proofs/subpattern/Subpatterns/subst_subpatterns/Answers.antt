use Rattle.logos_attribute.proofs.ReportLemmas.{report_alone}
use Rattle.logos_leaf.proofs.subpattern.Subpatterns.subst_subpatterns.Goals as goal

pub returns-clause-ok : goal.returns-clause-ok
returns-clause-ok c = report_alone _ _ _ _ _ _ c.new-missing.ensures c.in_ok-text.ensures c.in_ok-append.ensures.ok
