use Rattle.std.proofs.Common.{inr, refl}
use Rattle.std.proofs.lemmas.Result.{err_from_is_err_and}
use Rattle.logos_enum.specs.Rules.Then.{goes, stops}
use Rattle.logos_enum.proofs.RuleLemmas.{then-stops, then-goes}
use Rattle.logos_enum.proofs.fields.read_field.Goals as goal

pub returns-in_err-attributes-clause-err : goal.returns-in_err-attributes-clause-err
returns-in_err-attributes-clause-err c =
    let p = err_from_is_err_and c.from_residual.result c.from_residual.ensures.1 in
    rw (p.1, p.2) (inr (stops c.in_err-attributes.ensures.err))

pub returns-in_err-labelled-clause-err : goal.returns-in_err-labelled-clause-err
returns-in_err-labelled-clause-err c =
    let p = err_from_is_err_and c.from_residual-in_err-labelled.result c.from_residual-in_err-labelled.ensures.1 in
    rw (p.1, p.2) (inr (goes c.in_ok-attributes.ensures.ok (goes refl (stops (rw c.skip_visibility.ensures.value at c.in_err-labelled.ensures.err)))))

pub returns-in_err-typed-clause-err : goal.returns-in_err-typed-clause-err
returns-in_err-typed-clause-err c =
    let p = err_from_is_err_and c.from_residual-in_err-typed.result c.from_residual-in_err-typed.ensures.1 in
    rw (p.1, p.2) (then-goes _ _ _ _ _ _ c.in_ok-attributes.ensures.ok (then-goes _ _ _ _ _ _ refl (then-goes _ _ _ _ _ _ (rw c.skip_visibility.ensures.value at c.in_ok-labelled.ensures.ok) (then-stops _ _ _ _ c.in_err-typed.ensures.err))))

pub returns-clause-ok : goal.returns-clause-ok
returns-clause-ok c = goes c.in_ok-attributes.ensures.ok (goes refl (goes (rw c.skip_visibility.ensures.value at c.in_ok-labelled.ensures.ok) (goes c.in_ok-typed.ensures.ok refl)))
