use Rattle.logos_derive.proofs.DerivationLemmas.{all_accepted, all_refused}
use Rattle.logos_derive.proofs.derivation.derive.Goals as goal

pub returns-in-Ok : goal.returns-in-Ok
returns-in-Ok g c = all_accepted c.args.shape c.accepted.result (rw c.config_of.ensures at c.in-Ok.ensures.given) c.in-Ok.ensures.around c.accepted.ensures

pub returns-in-Err-Errors : goal.returns-in-Err-Errors
returns-in-Err-Errors g c = all_refused c.args.shape c.refused.result (rw c.in-Err-Errors.field-0-is at c.in-Err-Errors.ensures.refused) (rw c.in-Err-Errors.field-0-is at c.refused.ensures)
