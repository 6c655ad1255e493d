use Rattle.std.proofs.Common.{◌≤◌, length, drop, sym, subst, inl, inr, ⊎_elim, arith}
use Rattle.std.specs.Prelude.{Contains}
use Rattle.logos_evidence.specs.search.Covering.{Takes}
use Rattle.logos_evidence.specs.declared.search.steps.InputStep.{InputStep}
use Rattle.logos_evidence.proofs.search.StepLemmas.{more_steps, steps_stop, steps_end, last_step}
use Rattle.logos_evidence.proofs.search.steps.add_steps.Goals as goal

pub loop-byte-preserved : goal.loop-byte-preserved
loop-byte-preserved g c =
    let i = c.loop-byte.invariant in
    let made = c.in_ok-add_step.ensures in
    let next = g.M.Machine.leads c.args.machine.now in
    let one = more_steps next c.args.input.now c.loop-byte.byte-index c.loop-byte.at c.in-Some.to c.loop-byte-test.true (sym c.in-Some.ensures) in
    record {
      only = λ step h. ⊎_elim (λ old. i.only step old) (λ same. inr (i.whole step (one.here step same))) (made.only step h);
      grows = λ step h. made.grows step (i.grows step h);
      whole = λ step h. i.whole step (one.later step h);
      rest = λ step h.
          ⊎_elim (λ old. inl (made.grows step old)) (λ left. ⊎_elim (λ same. inl (subst (λ (s : InputStep). Contains c.add_step.new.steps.keys s) (sym same) made.has)) (λ on. inr on) (one.cases step left)) (i.rest step h);
    }

pub returns-in_default : goal.returns-in_default
returns-in_default g c =
    let i = c.loop-byte.invariant in
    let next = g.M.Machine.leads c.args.machine.now in
    record {
      only = i.only;
      grows = i.grows;
      all = λ step h.
          ⊎_elim (λ old. old) (λ left. absurd (steps_stop next c.args.input.now c.loop-byte.byte-index c.loop-byte.at step c.loop-byte-test.true (sym c.in_default.ensures) left)) (i.rest step h);
    }

pub returns : goal.returns
returns g c =
    let i = c.loop-byte.invariant in
    let made = c.in_ok-add_step-2.ensures in
    let next = g.M.Machine.leads c.args.machine.now in
    let past : length c.args.input.now ≤ c.loop-byte.byte-index = omega arith in
    record {
      only = λ step h.
          ⊎_elim (λ old. i.only step old)
          (λ same. inr (i.whole step (subst (λ (s : InputStep). Takes next c.loop-byte.at (drop c.loop-byte.byte-index c.args.input.now) s) (sym same) (steps_end next c.args.input.now c.loop-byte.byte-index c.loop-byte.at past)))) (made.only step h);
      grows = λ step h. made.grows step (i.grows step h);
      all = λ step h.
          ⊎_elim (λ old. made.grows step old)
          (λ left. subst (λ (s : InputStep). Contains c.add_step-2.new.steps.keys s) (sym (last_step next c.args.input.now c.loop-byte.byte-index c.loop-byte.at step past left)) made.has) (i.rest step h);
    }
