-- An enum without a fault has one meaning.
use Rattle.std.proofs.Common.{◌≡◌, List, [], map, ◌∙◌, ap, sym, refl, subst}
use Rattle.logos_token.specs.Faults.{Fault}
use Rattle.logos_token.specs.Tokens.{TokenList, run_span}
use Rattle.logos_type_params.specs.SelfFaults.{AreChecked}
use Rattle.logos_type_params.specs.Substitution.{ParamValue}
use Rattle.logos_enum.specs.AttributeValues.{SplitAttribute, attribute_in}
use Rattle.logos_enum.specs.EnumValues.{EnumValue, VariantValue}
use Rattle.logos_enum.specs.Values.{ParameterValue}
use Rattle.logos_definition.specs.Attributes.{ReadsAttribute, parameter_report}
use Rattle.logos_definition.specs.Options.{OptionsView}
use Rattle.logos_leaf.specs.subpattern.Substitution.{Stored}
use Rattle.logos_leaf.specs.Leaves.{LeafView}
use Rattle.logos_leaf.specs.Variants.{VariantsAdd, SkipsAdd}
use Rattle.logos_leaf.specs.Sources.{ReadsParameters, no_parameter, one_parameter, ReadsAttributes, no_attribute, one_attribute, YieldsLeaves, ReadsSource}
use Rattle.logos_leaf.proofs.agreement.Report.{Grows, Agree, grows_same, grows_then, report_grows, none_before, report_once, no_some, the_same}
use Rattle.logos_leaf.proofs.agreement.Types.{are_checked_grow, are_checked_once, given_same}
use Rattle.logos_leaf.proofs.agreement.Options.{attribute_grows, attribute_once}
use Rattle.logos_leaf.proofs.agreement.Subpatterns.{are_added_grow, are_added_once}
use Rattle.logos_leaf.proofs.agreement.Leaves.{shown}
use Rattle.logos_leaf.proofs.agreement.Variants.{variants_grow, variants_once, skips_grow, skips_once}

parameters_grow : {o : OptionsView} {o' : OptionsView} {old new : List Fault} {list : List ParameterValue} → ReadsParameters o o' old new list → Grows old new
parameters_grow no_parameter = grows_same refl
parameters_grow (one_parameter t rest) = grows_then (report_grows _ t) (parameters_grow rest)

parameters_once : {o : OptionsView} {o' : OptionsView} {p : OptionsView} {p' : OptionsView} {old new old' new' : List Fault} {list : List ParameterValue} → o ≡ p → new ≡ [] →
    ReadsParameters o o' old new list → ReadsParameters p p' old' new' list → Agree o' p' old' new'
parameters_once e n no_parameter no_parameter = (refl, e)
parameters_once e n (one_parameter {parameter = parameter} t rest) (one_parameter u others) =
    let k = report_once _ (ap (λ (x : OptionsView). parameter_report parameter.kind (record { text = parameter.name.text; span = parameter.name.span }) (run_span parameter.run) x) e) (none_before (parameters_grow rest) n) t u in
    let j = parameters_once k.1 n rest others in
    (j.0 ∙ k.0, j.1)

attributes_grow : {o : OptionsView} {o' : OptionsView} {old new : List Fault} {run : TokenList} → ReadsAttributes o o' old new run → Grows old new
attributes_grow (no_attribute e) = grows_same refl
attributes_grow (one_attribute e s rest) = grows_then (attribute_grows s) (attributes_grow rest)

attributes_once : {o : OptionsView} {o' : OptionsView} {p : OptionsView} {p' : OptionsView} {old new old' new' : List Fault} {run run' : TokenList} → run ≡ run' → o ≡ p → new ≡ [] →
    ReadsAttributes o o' old new run → ReadsAttributes p p' old' new' run' → Agree o' p' old' new'
attributes_once r e n (no_attribute f) (no_attribute g) = (refl, e)
attributes_once r e n (no_attribute f) (one_attribute g s rest) = absurd (no_some (sym g ∙ (sym (ap attribute_in r) ∙ f)))
attributes_once r e n (one_attribute f s rest) (no_attribute g) = absurd (no_some (sym f ∙ (ap attribute_in r ∙ g)))
attributes_once {o = o} {p = p} r e n (one_attribute {split = split} f s rest) (one_attribute {o' = m'} {old = l} {mid = l'} {split = split'} g t others) =
    let d = the_same (sym f ∙ (ap attribute_in r ∙ g)) in
    let moved = subst (λ (x : OptionsView). ReadsAttribute x m' l l' split.attribute) (sym e) (subst (λ (x : SplitAttribute). ReadsAttribute p m' l l' x.attribute) (sym d) t) in
    let k = attribute_once (none_before (attributes_grow rest) n) s moved in
    let j = attributes_once (ap (λ (x : SplitAttribute). x.rest) d) k.1 n rest others in
    (j.0 ∙ k.0, j.1)

module _ {o : OptionsView} {variants : List VariantValue} {leaves others : List LeafView} {old new old' new' : List Fault} (n : new ≡ []) (a : YieldsLeaves o variants leaves old new) (b : YieldsLeaves o variants others old' new') where
  types : a.params.types ≡ b.params.types
  types = a.given ∙ sym b.given

  after_skips : a.of_skips ≡ []
  after_skips = none_before (variants_grow a.variants_add) n

  after_subpatterns : a.of_subpatterns ≡ []
  after_subpatterns = none_before (skips_grow a.skips_add) after_skips

  after_held : a.of_held ≡ []
  after_held = none_before (are_added_grow a.subpatterns) after_subpatterns

  checked : b.of_held ≡ old'
  checked = are_checked_once after_held a.checked (subst (λ (x : List ParamValue). AreChecked x [] o.types.names old' b.of_held) (sym types) b.checked)

  subpatterns : Agree a.names b.names b.of_held b.of_subpatterns
  subpatterns = are_added_once refl after_subpatterns a.subpatterns b.subpatterns

  skips : Agree (map shown a.skips) (map shown b.skips) b.of_subpatterns b.of_skips
  skips = skips_once refl after_skips a.skips_add (subst (λ (x : List Stored). SkipsAdd x o.skips [] b.skips b.of_subpatterns b.of_skips) (sym subpatterns.1) b.skips_add)

  by_variants : Agree (map shown leaves) (map shown others) b.of_skips new'
  by_variants =
      variants_once a.params b.params (given_same a.params b.params types a.held b.held) skips.1 n a.variants_add
      (subst (λ (x : List Stored). VariantsAdd b.params x variants b.skips others b.of_skips new') (sym subpatterns.1) b.variants_add)

  leaves_once : Agree (map shown leaves) (map shown others) old' new'
  leaves_once = (by_variants.0 ∙ (skips.0 ∙ (subpatterns.0 ∙ checked)), by_variants.1)

leaves_grow : {o : OptionsView} {variants : List VariantValue} {leaves : List LeafView} {old new : List Fault} → YieldsLeaves o variants leaves old new → Grows old new
leaves_grow a =
    grows_then (are_checked_grow a.checked) (grows_then (are_added_grow a.subpatterns) (grows_then (skips_grow a.skips_add) (variants_grow a.variants_add)))

pub source_once : {item : EnumValue} {o : OptionsView} {p : OptionsView} {leaves others : List LeafView} {faults : List Fault} → ReadsSource item o leaves [] → ReadsSource item p others faults →
    (faults ≡ []) × (o ≡ p) × (map shown leaves ≡ map shown others)
source_once {item} {others = others} {faults = faults} a b =
    let after_attributes = none_before (leaves_grow a.leaves_read) refl in
    let after_parameters = none_before (attributes_grow a.attributes) after_attributes in
    let k = parameters_once refl after_parameters a.parameters b.parameters in
    let j = attributes_once refl k.1 after_attributes a.attributes b.attributes in
    let h = leaves_once refl a.leaves_read (subst (λ (x : OptionsView). YieldsLeaves x item.variants others b.of_attributes faults) (sym j.1) b.leaves_read) in
    (h.0 ∙ (j.0 ∙ k.0), j.1, h.1)
