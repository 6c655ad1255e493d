use Rattle.std.proofs.Common.{refl, ◌∙◌, arith}
use Rattle.std.proofs.lemmas.Result.{err_from_is_err_and}
use Rattle.logos_token.proofs.reading.CountLemmas.{IsRestOf-self}
use Rattle.logos_enum.specs.Attributes.Attributes.{occur, broken}
use Rattle.logos_enum.proofs.RuleLemmas.{IsRestOf-join}
use Rattle.logos_enum.proofs.attributes.read_attributes.Goals as goal

pub loop-next-init : goal.loop-next-init
loop-next-init c = record { same = refl; front = IsRestOf-self _; shorter = omega arith }

pub returns-in_err-next-clause-err : goal.returns-in_err-next-clause-err
returns-in_err-next-clause-err c =
    let p = err_from_is_err_and c.from_residual.result c.from_residual.ensures.1 in
    rw (p.1, p.2) (broken (c.loop-next.invariant.same ∙ c.in_err-next.ensures.value))

pub loop-next-preserved : goal.loop-next-preserved
loop-next-preserved c =
    let h = rw c.in-Some.is at c.in_ok-next.ensures.value in
    let f = rw c.in-Some.is at c.in_ok-next.ensures.front in
    record { same = c.loop-next.invariant.same ∙ h.0; front = IsRestOf-join _ _ _ c.loop-next.invariant.front f; shorter = omega (arith, h.1) }

pub returns-clause-ok : goal.returns-clause-ok
returns-clause-ok c =
    let h = rw c.in_default.is at c.in_ok-next.ensures.value in
    occur (c.loop-next.invariant.same ∙ h) (rw (c.before-2.ensures c.loop-next.invariant.front) c.loop-next.invariant.front.is)
