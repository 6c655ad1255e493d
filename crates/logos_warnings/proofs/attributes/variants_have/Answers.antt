use Rattle.std.proofs.Common.{◌≡◌, ◌∙◌, true, false, refl, sym}
use Rattle.logos_warnings.proofs.MistakeLemmas.{variants_step, variants_found, variants_ended}
use Rattle.logos_warnings.proofs.attributes.variants_have.Goals as goal

pub returns-then-has_helper : goal.returns-then-has_helper
returns-then-has_helper c = (
  λ _. c.loop-rest.invariant.1 (variants_found c.loop-rest.rest.now c.variant-item.result c.in-len1-up.len_at_least c.variant-item.is (c.has_helper.ensures.0 c.if-has_helper.true)),
  λ _. refl,
)

pub loop-rest-preserved : goal.loop-rest-preserved
loop-rest-preserved c =
    let step = variants_step c.loop-rest.rest.now c.variant-item.result c.in-len1-up.len_at_least c.variant-item.is
    (λ h. let clash : false ≡ true = sym c.if-has_helper.false ∙ c.has_helper.ensures.1 h in cc) in
    (λ h. step.0 (c.loop-rest.invariant.0 h), λ h. c.loop-rest.invariant.1 (step.1 h))

pub returns : goal.returns
returns c =
    (λ t. let clash : false ≡ true = t in cc, λ h. absurd (variants_ended c.loop-rest.rest.now c.in_default.len_below (c.loop-rest.invariant.0 h)))
