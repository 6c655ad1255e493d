use Rattle.std.proofs.lemmas.Result.{err_from_is_err_and}
use Rattle.logos_enum.specs.Rules.Then.{goes, stops}
use Rattle.logos_enum.proofs.fields.skip_label.Goals as goal

pub returns-in_err-rest-clause-err : goal.returns-in_err-rest-clause-err
returns-in_err-rest-clause-err c =
    let p = err_from_is_err_and c.from_residual.result c.from_residual.ensures.1 in
    rw (p.1, p.2, c.if-not-named.false) (stops c.in_err-rest.ensures)

pub returns-in_err-rest-2-clause-err : goal.returns-in_err-rest-2-clause-err
returns-in_err-rest-2-clause-err c =
    let p = err_from_is_err_and c.from_residual-in_err-rest-2.result c.from_residual-in_err-rest-2.ensures.1 in
    rw (p.1, p.2, c.if-not-named.false) (goes c.in_ok-rest.ensures.0 c.in_err-rest-2.ensures)

pub returns-clause-ok : goal.returns-clause-ok
returns-clause-ok c = rw c.if-not-named.false (goes c.in_ok-rest.ensures.0 c.in_ok-rest-2.ensures.0)
