use Rattle.std.proofs.Common.{◌≡◌, OnOk, subst, ap, ap₂, ◌∙◌, sym}
use Rattle.logos_hir.specs.Sets.{Set}
use Rattle.logos_hir.specs.RangeSets.{set_of}
use Rattle.logos_hir.specs.Operands.{selection, effects_on}
use Rattle.logos_hir.proofs.lemmas.OperandLemmas.{effects_on-push, one_then_other}
use Rattle.logos_hir.proofs.sets.operands.+push_effect.Goals as goal

pub returns-then-count-eq0 : goal.returns-then-count-eq0
returns-then-count-eq0 t c = λ before.
    ap (λ es. effects_on es before) c.in_ok-push.ensures.items ∙ effects_on-push c.args.effects.now.items c.args.effect before

pub returns-in_ok-then-in-Some : goal.returns-in_ok-then-in-Some
returns-in_ok-then-in-Some t c = λ before.
    let rest = c.pop.new.self.items in
    let last = c.in-Some.last in
    let effect = c.args.effect in
    let both = c.in_ok-then-in-Some.ensures in
    let same : selection (effects_on rest before) (set_of c.in_ok-then-in-Some.field-0.inside) (set_of c.in_ok-then-in-Some.field-0.outside)
    ≡ selection (effects_on c.args.effects.now.items before) (set_of effect.inside) (set_of effect.outside) =
    ap₂ (λ (i o : Set). selection (effects_on rest before) i o) both.inside both.outside
    ∙ one_then_other (effects_on rest before) (set_of last.outside) (set_of last.inside) (set_of effect.outside) (set_of effect.inside)
    ∙ ap (λ (s : Set). selection s (set_of effect.inside) (set_of effect.outside)) (sym (effects_on-push rest last before) ∙ ap (λ es. effects_on es before) (sym c.in-Some.ensures.items)) in
    subst (λ (s : Set). OnOk c.push_effect.result (effects_on c.push_effect.new.effects.items before ≡ s)) same (c.push_effect.ensures before)
