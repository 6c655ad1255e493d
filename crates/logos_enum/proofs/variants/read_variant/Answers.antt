use Rattle.std.proofs.Common.{inr, refl}
use Rattle.std.proofs.lemmas.Result.{err_from_is_err_and}
use Rattle.logos_enum.specs.Rules.Then.{goes, stops}
use Rattle.logos_enum.proofs.RuleLemmas.{then-stops, then-goes}
use Rattle.logos_enum.proofs.variants.read_variant.Goals as goal

pub returns-in_err-attributes-clause-err : goal.returns-in_err-attributes-clause-err
returns-in_err-attributes-clause-err c =
    let p = err_from_is_err_and c.from_residual.result c.from_residual.ensures.1 in
    rw (p.1, p.2) (inr (stops c.in_err-attributes.ensures.err))

pub returns-in_err-name-clause-err : goal.returns-in_err-name-clause-err
returns-in_err-name-clause-err c =
    let p = err_from_is_err_and c.from_residual-in_err-name.result c.from_residual-in_err-name.ensures.1 in
    rw (p.1, p.2) (inr (goes c.in_ok-attributes.ensures.ok (stops c.in_err-name.ensures)))

pub returns-in_err-fields-clause-err : goal.returns-in_err-fields-clause-err
returns-in_err-fields-clause-err c =
    let p = err_from_is_err_and c.from_residual-in_err-fields.result c.from_residual-in_err-fields.ensures.1 in
    rw (p.1, p.2) (then-goes _ _ _ _ _ _ c.in_ok-attributes.ensures.ok (then-goes _ _ _ _ _ _ c.in_ok-name.ensures.0 (then-stops _ _ _ _ c.in_err-fields.ensures.err)))

pub returns-in_err-rest-clause-err : goal.returns-in_err-rest-clause-err
returns-in_err-rest-clause-err c =
    let p = err_from_is_err_and c.from_residual-in_err-rest.result c.from_residual-in_err-rest.ensures.1 in
    rw (p.1, p.2) (inr (goes c.in_ok-attributes.ensures.ok (goes c.in_ok-name.ensures.0 (goes c.in_ok-fields.ensures.ok (stops c.in_err-rest.ensures)))))

pub returns-clause-ok : goal.returns-clause-ok
returns-clause-ok c = goes c.in_ok-attributes.ensures.ok (goes c.in_ok-name.ensures.0 (goes c.in_ok-fields.ensures.ok (goes c.in_ok-rest.ensures.0 refl)))
