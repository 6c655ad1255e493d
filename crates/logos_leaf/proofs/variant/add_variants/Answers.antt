use Rattle.std.proofs.Common.{◌≡◌, ◌∙◌, ◌∷◌, ◌+◌, map, drop, ap, sym}
use Rattle.std.proofs.lemmas.List.{at_drop_more, at_drop_all}
use Rattle.logos_type_params.specs.SelfReference.{texts}
use Rattle.logos_enum.specs.EnumValues.{variant_value}
use Rattle.logos_leaf.specs.Variants.{no_variant, one_variant}
use Rattle.logos_leaf.proofs.VariantLemmas.{same_params}
use Rattle.logos_leaf.proofs.variant.add_variants.Goals as goal

pub loop-variant-preserved : goal.loop-variant-preserved
loop-variant-preserved c =
    let left : map variant_value (drop c.loop-variant.variant-index c.args.variants.now)
    ≡ variant_value c.variant-item.result ∷ map variant_value (drop (c.loop-variant.variant-index + 1) c.args.variants.now) =
    at_drop_more (λ xs. map variant_value xs) c.args.variants.now c.loop-variant.variant-index c.variant-item.result c.loop-variant-test.true
    ∙ ap (λ x. variant_value x ∷ map variant_value (drop (c.loop-variant.variant-index + 1) c.args.variants.now)) (sym c.variant-item.is) in
    let added = rw (same_params c.loop-variant.parser c.args.parser.now (texts c.args.held.now.keys) c.loop-variant.invariant.unchanged) at c.in_ok-add_variant.ensures.given in
    record {
      unchanged = rw c.loop-variant.invariant.unchanged at c.in_ok-add_variant.ensures.unchanged;
      completes = λ after new rest. c.loop-variant.invariant.completes after new (rw left (one_variant added rest));
    }

pub returns-clause-given : goal.returns-clause-given
returns-clause-given c =
    c.loop-variant.invariant.completes _ _
    (rw (at_drop_all (λ xs. map variant_value xs) c.args.variants.now c.loop-variant.variant-index c.loop-variant-test.false) no_variant)
