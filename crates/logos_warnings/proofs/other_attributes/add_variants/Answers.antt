use Rattle.std.proofs.Common.{map, refl}
use Rattle.logos_enum.specs.EnumValues.{variant_value}
use Rattle.logos_warnings.specs.Shown.{IsIgnoredOn}
use Rattle.logos_warnings.proofs.ShownLemmas.{adds_none, variant_next}
use Rattle.logos_warnings.proofs.other_attributes.add_variants.Goals as goal

pub loop-variant-init : goal.loop-variant-init
loop-variant-init c = adds_none (IsIgnoredOn (map variant_value c.args.variants.now)) _

pub loop-variant-preserved : goal.loop-variant-preserved
loop-variant-preserved c = variant_next c.args.variants.now c.loop-variant.variant-index c.variant-item.result _ _ _ _ c.loop-variant-test.true c.variant-item.is refl c.loop-variant.invariant c.in_ok-add_run.ensures
