use Rattle.std.proofs.lemmas.Result.{err_from_is_err_and}
use Rattle.logos_enum.specs.Rules.Then.{goes, stops}
use Rattle.logos_enum.proofs.generics.skip_tail.Goals as goal

pub returns-in_err-rest-in-Type-clause-err : goal.returns-in_err-rest-in-Type-clause-err
returns-in_err-rest-in-Type-clause-err c =
    let p = err_from_is_err_and c.from_residual.result c.from_residual.ensures.1 in
    rw (p.1, p.2, c.in-Type.is) (goes c.skip_bounds-in-Type.ensures.value c.in_err-rest-in-Type.ensures)

pub returns-in_ok-rest-in-Type-clause-ok : goal.returns-in_ok-rest-in-Type-clause-ok
returns-in_ok-rest-in-Type-clause-ok c = rw c.in-Type.is (goes c.skip_bounds-in-Type.ensures.value c.in_ok-rest-in-Type.ensures.0)

pub returns-in_err-skip_constant-in-Const-clause-err : goal.returns-in_err-skip_constant-in-Const-clause-err
returns-in_err-skip_constant-in-Const-clause-err c =
    let p = err_from_is_err_and c.from_residual-in_err-skip_constant-in-Const.result c.from_residual-in_err-skip_constant-in-Const.ensures.1 in
    rw (p.1, p.2, c.in-Const.is) (stops c.in_err-skip_constant-in-Const.ensures)

pub returns-in_err-rest-in-Const-clause-err : goal.returns-in_err-rest-in-Const-clause-err
returns-in_err-rest-in-Const-clause-err c =
    let p = err_from_is_err_and c.from_residual-in_err-rest-in-Const.result c.from_residual-in_err-rest-in-Const.ensures.1 in
    rw (p.1, p.2, c.in-Const.is) (goes c.in_ok-skip_constant-in-Const.ensures.0 c.in_err-rest-in-Const.ensures)

pub returns-in_ok-rest-in-Const-clause-ok : goal.returns-in_ok-rest-in-Const-clause-ok
returns-in_ok-rest-in-Const-clause-ok c = rw c.in-Const.is (goes c.in_ok-skip_constant-in-Const.ensures.0 c.in_ok-rest-in-Const.ensures.0)
