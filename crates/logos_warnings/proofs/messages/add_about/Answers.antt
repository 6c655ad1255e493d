use Rattle.std.proofs.Common.{◌∙◌, sym}
use Rattle.logos_warnings.specs.Mistakes.{mistake_value}
use Rattle.logos_warnings.proofs.ShownLemmas.{about_none, about_one}
use Rattle.logos_warnings.proofs.messages.add_about.Goals as goal

pub returns-in_ok-push : goal.returns-in_ok-push
returns-in_ok-push c = about_one c.args.name.now c.args.origin (mistake_value c.args.mistake) _ _ _ (sym c.is_warning.ensures ∙ c.if-is_warning.true) c.in_ok-push.ensures.items c.in_ok-warning.ensures

pub returns-else-is_warning : goal.returns-else-is_warning
returns-else-is_warning c = about_none c.args.name.now c.args.origin (mistake_value c.args.mistake) _ (sym c.is_warning.ensures ∙ c.if-is_warning.false)
