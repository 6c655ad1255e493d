use Rattle.std.proofs.Common.{refl}
use Rattle.std.proofs.lemmas.Result.{err_from_is_err_and}
use Rattle.logos_enum.specs.Rules.Then.{goes, stops}
use Rattle.logos_enum.proofs.generics.read_shape.Goals as goal

pub returns-in_err-rest-clause-err : goal.returns-in_err-rest-clause-err
returns-in_err-rest-clause-err c =
    let p = err_from_is_err_and c.from_residual.result c.from_residual.ensures.1 in
    rw (p.1, p.2) (stops c.in_err-rest.ensures.err)

pub returns-in_err-head-clause-err : goal.returns-in_err-head-clause-err
returns-in_err-head-clause-err c =
    let p = err_from_is_err_and c.from_residual-in_err-head.result c.from_residual-in_err-head.ensures.1 in
    rw (p.1, p.2) (goes c.in_ok-rest.ensures.ok (stops c.in_err-head.ensures))

pub returns-in_err-rest-2-clause-err : goal.returns-in_err-rest-2-clause-err
returns-in_err-rest-2-clause-err c =
    let p = err_from_is_err_and c.from_residual-in_err-rest-2.result c.from_residual-in_err-rest-2.ensures.1 in
    rw (p.1, p.2) (goes c.in_ok-rest.ensures.ok (goes c.in_ok-head.ensures.0 (stops c.in_err-rest-2.ensures.err)))

pub returns-clause-ok : goal.returns-clause-ok
returns-clause-ok c = goes c.in_ok-rest.ensures.ok (goes c.in_ok-head.ensures.0 (goes c.in_ok-rest-2.ensures.ok refl))
