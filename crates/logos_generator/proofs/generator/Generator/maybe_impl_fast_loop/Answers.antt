use Rattle.std.proofs.Common.{◌≡◌, OnOk, Result, Ok, Err, [], refl, sym, subst}
use Rattle.std.proofs.lemmas.List.{append-nil}
use Rattle.logos_generator.specs.GeneratorValue.{GeneratorValue}
use Rattle.logos_generator.specs.NodeCalls.{Continues}
use Rattle.logos_generator.proofs.generator.Generator.maybe_impl_fast_loop.Goals as goal

whatever_is_given : {T E : Type 0} (r : Result T E) (P : Type 0) → P → OnOk r P
whatever_is_given (Ok x) P p = p
whatever_is_given (Err e) P p = tt

continued : (old start new : GeneratorValue) → start ≡ old → Continues start new → Continues old new
continued old start new e h = subst (λ (v : GeneratorValue). Continues v new) e h

pub returns-clause-continues : goal.returns-clause-continues
returns-clause-continues c =
    whatever_is_given c.match-branch-2.result _
    (continued _ _ _ c.self.view_is (record { given = refl; graph = refl; tests = c.in_ok-test.ensures.grows; jumps = ([], sym (append-nil c.self.inside.tables.jumps.keys)) }))
