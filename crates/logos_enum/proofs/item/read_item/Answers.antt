use Rattle.std.proofs.Common.{inr, refl}
use Rattle.std.proofs.lemmas.Result.{err_from_is_err_and}
use Rattle.logos_enum.specs.Rules.Then.{goes, stops}
use Rattle.logos_enum.proofs.RuleLemmas.{then-stops, then-goes}
use Rattle.logos_enum.proofs.item.read_item.Goals as goal

pub returns-in_err-name-clause-err : goal.returns-in_err-name-clause-err
returns-in_err-name-clause-err c =
    let p = err_from_is_err_and c.from_residual.result c.from_residual.ensures.1 in
    rw (p.1, p.2) (inr (stops c.in_err-name.ensures))

pub returns-in_err-parameters-clause-err : goal.returns-in_err-parameters-clause-err
returns-in_err-parameters-clause-err c =
    let p = err_from_is_err_and c.from_residual-in_err-parameters.result c.from_residual-in_err-parameters.ensures.1 in
    rw (p.1, p.2) (then-goes _ _ _ _ _ _ c.in_ok-name.ensures.0 (then-stops _ _ _ _ c.in_err-parameters.ensures.err))

pub returns-in_err-variants-clause-err : goal.returns-in_err-variants-clause-err
returns-in_err-variants-clause-err c =
    let p = err_from_is_err_and c.from_residual-in_err-variants.result c.from_residual-in_err-variants.ensures.1 in
    rw (p.1, p.2) (then-goes _ _ _ _ _ _ c.in_ok-name.ensures.0 (then-goes _ _ _ _ _ _ c.in_ok-parameters.ensures.ok (then-goes _ _ _ _ _ _ c.skip_where.ensures (then-stops _ _ _ _ c.in_err-variants.ensures.err))))

pub returns-in_err-read_end-clause-err : goal.returns-in_err-read_end-clause-err
returns-in_err-read_end-clause-err c =
    let p = err_from_is_err_and c.from_residual-in_err-read_end.result c.from_residual-in_err-read_end.ensures.1 in
    rw (p.1, p.2) (inr (goes c.in_ok-name.ensures.0 (goes c.in_ok-parameters.ensures.ok (goes c.skip_where.ensures (goes c.in_ok-variants.ensures.ok (stops c.in_err-read_end.ensures))))))

pub returns-clause-ok : goal.returns-clause-ok
returns-clause-ok c = goes c.in_ok-name.ensures.0 (goes c.in_ok-parameters.ensures.ok (goes c.skip_where.ensures (goes c.in_ok-variants.ensures.ok (goes c.in_ok-read_end.ensures refl))))
