use Rattle.std.proofs.Common.{◌≡◌, ◌∙◌, true, false, sym}
use Rattle.logos_warnings.specs.Mistakes.{on_leaf, on_other}
use Rattle.logos_warnings.proofs.mistakes.report_variant.Goals as goal

pub returns-then-has_helper : goal.returns-then-has_helper
returns-then-has_helper c = on_leaf (c.has_helper.ensures.0 c.if-has_helper.true) c.in_ok-report_run.ensures

pub returns : goal.returns
returns c = on_other (λ h. let clash : false ≡ true = sym c.if-has_helper.false ∙ c.has_helper.ensures.1 h in cc) c.in_ok-report_run-2.ensures
