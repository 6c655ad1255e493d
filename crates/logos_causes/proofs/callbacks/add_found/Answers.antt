use Rattle.std.proofs.Common.{◌∙◌}
use Rattle.logos_warnings.proofs.ShownLemmas.{adds_none, adds_one}
use Rattle.logos_causes.specs.Warned.{IsOfCallback}
use Rattle.logos_causes.proofs.callbacks.add_found.Goals as goal

pub returns-in_default : goal.returns-in_default
returns-in_default c = adds_none IsOfCallback _

pub returns : goal.returns
returns c = adds_one IsOfCallback _ _ _ c.in_ok-push.ensures.items (record { mistake = c.in-Some.found.mistake; message = c.in_ok-fixed_warning.ensures.text ∙ c.callback_text-message.ensures })
