use Rattle.std.proofs.lemmas.Result.{err_from_is_err_and}
use Rattle.logos_enum.specs.Generics.OneParameter.{occurs, broken}
use Rattle.logos_enum.proofs.generics.read_parameter.Goals as goal

pub returns-in_err-head-clause-err : goal.returns-in_err-head-clause-err
returns-in_err-head-clause-err c =
    let p = err_from_is_err_and c.from_residual.result c.from_residual.ensures.1 in
    rw (p.1, p.2) (broken c.in_err-head.ensures.err)

pub returns-clause-ok : goal.returns-clause-ok
returns-clause-ok c = occurs c.in_ok-head.ensures.ok c.extent-run.ensures
