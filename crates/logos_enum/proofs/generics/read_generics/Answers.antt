use Rattle.std.proofs.Common.{inr, refl}
use Rattle.std.proofs.lemmas.Result.{err_from_is_err_and}
use Rattle.logos_enum.specs.Rules.Then.{goes}
use Rattle.logos_enum.specs.Generics.Generics.{listed, absent}
use Rattle.logos_enum.proofs.RuleLemmas.{then-stops, then-goes}
use Rattle.logos_enum.proofs.GenericLemmas.{generics-occur}
use Rattle.logos_enum.proofs.generics.read_generics.Goals as goal

pub returns-in_default-clause-ok : goal.returns-in_default-clause-ok
returns-in_default-clause-ok c = rw c.new.ensures.items (absent c.in_default.ensures)

pub returns-in_err-list-clause-err : goal.returns-in_err-list-clause-err
returns-in_err-list-clause-err c =
    let p = err_from_is_err_and c.from_residual.result c.from_residual.ensures.1 in
    rw (p.1, p.2) (generics-occur _ _ _ c.in-Some.ensures.0 c.in-Some.ensures.1 (then-stops _ _ _ _ c.in_err-list.ensures.err))

pub returns-in_err-rest-clause-err : goal.returns-in_err-rest-clause-err
returns-in_err-rest-clause-err c =
    let p = err_from_is_err_and c.from_residual-in_err-rest.result c.from_residual-in_err-rest.ensures.1 in
    rw (p.1, p.2) (generics-occur _ _ _ c.in-Some.ensures.0 c.in-Some.ensures.1 (then-goes _ _ _ _ _ _ c.in_ok-list.ensures.ok (then-stops _ _ _ _ (inr c.in_err-rest.ensures))))

pub returns-clause-ok : goal.returns-clause-ok
returns-clause-ok c = listed c.in-Some.ensures.0 (rw (← c.in-Some.ensures.1) (goes c.in_ok-list.ensures.ok (goes c.in_ok-rest.ensures refl)))
