use Rattle.std.proofs.lemmas.Result.{IfOk-weaker}
use Rattle.logos_leaf.specs.Variants.{no_regex, a_regex}
use Rattle.logos_leaf.proofs.variant.read_regex.Goals as goal

pub returns-in_default-clause-given : goal.returns-in_default-clause-given
returns-in_default-clause-given c = no_regex (rw c.in_default.is at c.in_ok-definition.ensures.ok) c.in_ok-report_regex_form.ensures

pub returns-clause-given : goal.returns-clause-given
returns-clause-given c = IfOk-weaker c.regex_leaf.result _ _ (λ leaf h. a_regex (rw c.in-Some.is at c.in_ok-definition.ensures.ok) (rw c.in_ok-kind.ensures.cases at h)) c.regex_leaf.ensures.ok
