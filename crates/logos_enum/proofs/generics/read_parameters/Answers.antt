use Rattle.std.proofs.Common.{inr, sym, ◌∙◌}
use Rattle.std.proofs.lemmas.Result.{err_from_is_err_and}
use Rattle.logos_enum.specs.Rules.Listed.{ended, further, unparted, stopped}
use Rattle.logos_enum.specs.Values.{parameter_value}
use Rattle.logos_enum.proofs.RuleLemmas.{joined-nil, one-more}
use Rattle.logos_enum.proofs.generics.read_parameters.Goals as goal

pub returns-in_err-parameter-clause-err : goal.returns-in_err-parameter-clause-err
returns-in_err-parameter-clause-err c =
    let p = err_from_is_err_and c.from_residual.result c.from_residual.ensures.1 in
    rw (p.1, p.2) (inr (c.loop-rest.invariant _ (stopped (sym c.begins_with.ensures ∙ c.loop-rest-test.true) c.in_err-parameter.ensures.err)))

pub returns-in_err-next-clause-err : goal.returns-in_err-next-clause-err
returns-in_err-next-clause-err c =
    let p = err_from_is_err_and c.from_residual-in_err-next.result c.from_residual-in_err-next.ensures.1 in
    rw (p.1, p.2) (inr (c.loop-rest.invariant _ (unparted (sym c.begins_with.ensures ∙ c.loop-rest-test.true) c.in_ok-parameter.ensures.ok c.in_err-next.ensures)))

pub loop-rest-preserved : goal.loop-rest-preserved
loop-rest-preserved c = λ outcome h.
    rw (← one-more parameter_value c.loop-rest.list.items c.push.new.self.items c.in_ok-parameter.parameter outcome c.in_ok-push.ensures.items) (
    c.loop-rest.invariant _ (further (sym c.begins_with.ensures ∙ c.loop-rest-test.true) c.in_ok-parameter.ensures.ok c.in_ok-next.ensures.0 h)
    )

pub returns-clause-ok : goal.returns-clause-ok
returns-clause-ok c = rw joined-nil at (c.loop-rest.invariant _ (ended (sym c.begins_with.ensures ∙ c.loop-rest-test.false)))
