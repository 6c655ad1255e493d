use Rattle.std.proofs.Common.{◌≡◌, ◌∙◌, true, false, refl, sym}
use Rattle.logos_warnings.specs.Mistakes.{here}
use Rattle.logos_warnings.proofs.MistakeLemmas.{helper_turn, no_helper}
use Rattle.logos_warnings.proofs.attributes.has_helper.Goals as goal

pub returns-then-is_helper : goal.returns-then-is_helper
returns-then-is_helper c = (λ _. c.loop-attribute.invariant.1 (here c.in-Some.ensures.0 (c.is_helper.ensures.0 c.if-is_helper.true)), λ _. refl)

pub loop-attribute-preserved : goal.loop-attribute-preserved
loop-attribute-preserved c =
    let turn = helper_turn _ c.in-Some.ensures.0 (λ h. let clash : false ≡ true = sym c.if-is_helper.false ∙ c.is_helper.ensures.1 h in cc) in
    (λ h. turn.0 (c.loop-attribute.invariant.0 h), λ h. c.loop-attribute.invariant.1 (turn.1 h))

pub returns : goal.returns
returns c =
    (λ t. let clash : false ≡ true = t in cc, λ h. absurd (no_helper c.in_default.ensures (c.loop-attribute.invariant.0 h)))
