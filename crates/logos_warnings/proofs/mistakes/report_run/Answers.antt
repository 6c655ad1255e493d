use Rattle.logos_warnings.specs.Mistakes.{no_attribute, one_attribute}
use Rattle.logos_warnings.proofs.mistakes.report_run.Goals as goal

pub loop-attribute-preserved : goal.loop-attribute-preserved
loop-attribute-preserved c = λ after rest. c.loop-attribute.invariant after (one_attribute c.in-Some.ensures.0 c.in_ok-report_attribute.ensures rest)

pub returns : goal.returns
returns c = c.loop-attribute.invariant _ (no_attribute c.in_default.ensures)
