use Rattle.std.proofs.Common.{subst}
use Rattle.std.specs.Prelude.{Contains}
use Rattle.logos_evidence.proofs.search.MeetLemmas.{same_step, stays}
use Rattle.logos_evidence.proofs.search.StepLemmas.{got_contains, only_added, grows_added}
use Rattle.logos_evidence.proofs.search.steps.add_step.Goals as goal

pub returns-clause-has : goal.returns-clause-has
returns-clause-has c =
    let stored = c.in_ok-is_new.ensures.stored in
    let same = same_step c.args.step stored.0 stored.2 in
    subst (Contains _) same (got_contains _ _ stored.0 stored.1)

pub returns-clause-only : goal.returns-clause-only
returns-clause-only c = λ other h. only_added _ _ _ c.args.step other c.in_ok-is_new.ensures.keys h

pub returns-clause-grows : goal.returns-clause-grows
returns-clause-grows c = λ other h. grows_added _ _ _ c.args.step other c.in_ok-is_new.ensures.keys h

pub returns-clause-stays : goal.returns-clause-stays
returns-clause-stays c = λ e. stays _ _ _ _ c.in_ok-is_new.is_new c.in_ok-is_new.ensures.added e c.in_ok-is_new.ensures.keys
