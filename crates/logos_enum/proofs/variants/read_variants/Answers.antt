use Rattle.std.proofs.Common.{inr}
use Rattle.std.proofs.lemmas.Result.{err_from_is_err_and}
use Rattle.logos_enum.specs.EnumValues.{variant_value}
use Rattle.logos_enum.specs.Rules.Listed.{ended, further, unparted}
use Rattle.logos_enum.proofs.RuleLemmas.{joined-nil, one-more, listed-stops, not_none, is_none-from_none}
use Rattle.logos_enum.proofs.variants.read_variants.Goals as goal

pub returns-in_err-variant-clause-err : goal.returns-in_err-variant-clause-err
returns-in_err-variant-clause-err c =
    let p = err_from_is_err_and c.from_residual.result c.from_residual.ensures.1 in
    rw (p.1, p.2) (listed-stops _ _ _ _ (not_none _ _ c.is_empty.ensures c.loop-rest-test.true) (λ error h. c.loop-rest.invariant _ h) c.in_err-variant.ensures.err)

pub returns-in_err-next-clause-err : goal.returns-in_err-next-clause-err
returns-in_err-next-clause-err c =
    let p = err_from_is_err_and c.from_residual-in_err-next.result c.from_residual-in_err-next.ensures.1 in
    rw (p.1, p.2) (inr (c.loop-rest.invariant _ (unparted (not_none _ _ c.is_empty.ensures c.loop-rest-test.true) c.in_ok-variant.ensures.ok c.in_err-next.ensures)))

pub loop-rest-preserved : goal.loop-rest-preserved
loop-rest-preserved c = λ outcome h.
    rw (← one-more variant_value c.loop-rest.list.items c.push.new.self.items c.in_ok-variant.variant outcome c.in_ok-push.ensures.items) (
    c.loop-rest.invariant _ (further (not_none _ _ c.is_empty.ensures c.loop-rest-test.true) c.in_ok-variant.ensures.ok c.in_ok-next.ensures.0 h)
    )

pub returns-clause-ok : goal.returns-clause-ok
returns-clause-ok c =
    let e = c.is_empty.ensures.0 c.loop-rest-test.false in
    rw (joined-nil, e) at (c.loop-rest.invariant _ (ended (is_none-from_none _ e)))
