-- Attributes, one after another.
use Rattle.std.proofs.Common.{◌≡◌, ◌<◌, ◌≤◌, ◌-◌, ◌⊎◌, ◌↔◌, List, [], ◌∷◌, ◌++◌, Some, None, map, length, get_or, take, drop, sym, ap, ◌∙◌, inl, inr, subst, arith}
use Rattle.std.proofs.lemmas.List.{take_rest, map-append}
use Rattle.logos_enum.specs.AttributeValues.{SplitAttribute, attribute_in}
use Rattle.logos_enum.specs.EnumValues.{VariantValue, variant_value}
use Rattle.logos_enum.specs.declared.variants.Variant.{Variant}
use Rattle.logos_token.specs.Tokens.{TokenList}
use Rattle.logos_token.specs.Views.{tokens_of}
use Rattle.logos_warnings.specs.Mistakes.{IsHelper, HasHelper, here, later, VariantsHave, first_has, more_have}
use Rattle.logos_warnings.specs.Mistakes.{MistakeValue, mistake_value, VariantAdds, VariantsAdd, no_variant, one_variant}
use Rattle.logos_warnings.specs.declared.mistakes.Mistake.{Mistake}

-- a run with an attribute in front has a helper attribute if that is one, or if the rest has one
pub split_helper : {run : TokenList} (split : SplitAttribute) → attribute_in run ≡ Some split → HasHelper run → IsHelper split.attribute ⊎ HasHelper split.rest
split_helper split is (here {split = other} e h) =
    let found : Some other ≡ Some split = sym e ∙ is in
    let same : other ≡ split = cc in
    inl (subst (λ (s : SplitAttribute). IsHelper s.attribute) same h)
split_helper split is (later {split = other} e h) =
    let found : Some other ≡ Some split = sym e ∙ is in
    let same : other ≡ split = cc in
    inr (subst (λ (s : SplitAttribute). HasHelper s.rest) same h)

-- a run without an attribute in front has none
pub no_helper : {run : TokenList} → attribute_in run ≡ None → ¬ HasHelper run
no_helper is (here {split = other} e h) = let gone : None ≡ Some other = sym is ∙ e in cc
no_helper is (later {split = other} e h) = let gone : None ≡ Some other = sym is ∙ e in cc

-- the fact about the rest implies the fact about the run
pub helper_turn : {run : TokenList} (split : SplitAttribute) → attribute_in run ≡ Some split → ¬ IsHelper split.attribute → HasHelper run ↔ HasHelper split.rest
helper_turn {run} split is other = (λ h. go (split_helper split is h), λ h. later is h)
  where
    go : IsHelper split.attribute ⊎ HasHelper split.rest → HasHelper split.rest
    go (inl h) = absurd (other h)
    go (inr h) = h

split_variants : {variant : VariantValue} {more : List VariantValue} → VariantsHave (variant ∷ more) → HasHelper variant.attributes ⊎ VariantsHave more
split_variants (first_has h) = inl h
split_variants (more_have h) = inr h

pub variants_turn : (variant : VariantValue) (more : List VariantValue) → ¬ HasHelper variant.attributes → VariantsHave (variant ∷ more) ↔ VariantsHave more
variants_turn variant more other = (λ h. go (split_variants h), λ h. more_have h)
  where
    go : HasHelper variant.attributes ⊎ VariantsHave more → VariantsHave more
    go (inl h) = absurd (other h)
    go (inr h) = h

no_variants : ¬ VariantsHave []
no_variants h = elim h [ ]

-- ---- Variants, one after another, as a slice pattern splits them

pub variants_step : (rest : List Variant) (item : Variant) → 1 ≤ length rest → item ≡ get_or rest 0 item → ¬ HasHelper (tokens_of item.attributes) →
    VariantsHave (map variant_value rest) ↔ VariantsHave (map variant_value (take (length rest - 1) (drop 1 rest)))
variants_step [] item l is other = absurd (omega (arith, l))
variants_step (first ∷ more) item l is other =
    rw (take_rest (first ∷ more) 1) (variants_turn (variant_value first) (map variant_value more) (subst (λ (v : Variant). ¬ HasHelper (tokens_of v.attributes)) is other))

pub variants_found : (rest : List Variant) (item : Variant) → 1 ≤ length rest → item ≡ get_or rest 0 item → HasHelper (tokens_of item.attributes) → VariantsHave (map variant_value rest)
variants_found [] item l is has = absurd (omega (arith, l))
variants_found (first ∷ more) item l is has = first_has (subst (λ (v : Variant). HasHelper (tokens_of v.attributes)) is has)

pub variants_ended : (rest : List Variant) → length rest < 1 → ¬ VariantsHave (map variant_value rest)
variants_ended [] l = no_variants
variants_ended (first ∷ more) l = absurd (omega (arith, l))

pub add_variant : {before mid after : List MistakeValue} (rest : List Variant) (item : Variant) → 1 ≤ length rest → item ≡ get_or rest 0 item →
    VariantAdds (tokens_of item.attributes) before mid → VariantsAdd (map variant_value (take (length rest - 1) (drop 1 rest))) mid after →
    VariantsAdd (map variant_value rest) before after
add_variant [] item l is adds more = absurd (omega (arith, l))
add_variant {before} {mid} (first ∷ rest) item l is adds more =
    one_variant (subst (λ (v : Variant). VariantAdds (tokens_of v.attributes) before mid) is adds) (rw (take_rest (first ∷ rest) 1) at more)

pub added_all : {before : List MistakeValue} (rest : List Variant) → length rest < 1 → VariantsAdd (map variant_value rest) before before
added_all [] l = no_variant
added_all (first ∷ more) l = absurd (omega (arith, l))

-- one more warning
pub one_more : (before after : List Mistake) (one : Mistake) → after ≡ before ++ one ∷ [] → map mistake_value after ≡ map mistake_value before ++ mistake_value one ∷ []
one_more before after one e = ap (map mistake_value) e ∙ map-append mistake_value before (one ∷ [])
