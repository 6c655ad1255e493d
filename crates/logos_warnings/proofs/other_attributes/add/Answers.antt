use Rattle.logos_warnings.specs.Shown.{IsAt}
use Rattle.logos_warnings.proofs.ShownLemmas.{adds_one}
use Rattle.logos_warnings.proofs.other_attributes.add.Goals as goal

pub returns : goal.returns
returns c = adds_one (IsAt c.args.span) _ _ _ c.in_ok-push.ensures.items c.in_ok-fixed_warning.ensures.span
