use Rattle.logos_warnings.proofs.ShownLemmas.{then_ok}
use Rattle.logos_causes.specs.Warned.{IsOfCallback}
use Rattle.logos_causes.proofs.callbacks.add_closure.Goals as goal

pub returns : goal.returns
returns c = then_ok c.add_found.result IsOfCallback IsOfCallback _ _ _ c.in_ok-add_escapes.ensures (λ warning h. h) c.add_found.ensures
