-- The leaves and the options of an enum, and the faults of its parts, in order.
use Rattle.std.specs.Prelude.{◌≡◌, List, [], ◌∷◌, map, Some, None}
use Rattle.logos_token.specs.Faults.{Fault}
use Rattle.logos_token.specs.Tokens.{TokenList, run_span}
use Rattle.logos_type_params.specs.SelfFaults.{AreChecked}
use Rattle.logos_type_params.specs.Substitution.{Params, ParamValue}
use Rattle.logos_type_params.specs.TypeParams.{Given}
use Rattle.logos_type_params.specs.WrittenTypes.{AreHeld}
use Rattle.logos_enum.specs.AttributeValues.{SplitAttribute, attribute_in}
use Rattle.logos_enum.specs.EnumValues.{EnumValue, VariantValue}
use Rattle.logos_enum.specs.Values.{ParameterValue}
use Rattle.logos_attribute.specs.Reports.{IsReport}
use Rattle.logos_definition.specs.Attributes.{ReadsAttribute, parameter_report}
use Rattle.logos_definition.specs.Options.{OptionsView, no_options, utf8_mode}
use Rattle.logos_leaf.specs.subpattern.Subpatterns.{AreAdded}
use Rattle.logos_leaf.specs.subpattern.Substitution.{Stored}
use Rattle.logos_leaf.specs.Leaves.{LeafView}
use Rattle.logos_leaf.specs.Variants.{SkipsAdd, VariantsAdd}

-- Reading the generic parameters of an enum changes the options from `o` to `o'`, and adds their
-- faults, in order.
pub data ReadsParameters : (o : OptionsView) (o' : OptionsView) (old new : List Fault) → List ParameterValue → Type 0 where
  no_parameter : {o : OptionsView} {faults : List Fault} → ReadsParameters o o faults faults []
  one_parameter : {o : OptionsView} {o' : OptionsView} {o'' : OptionsView} {old mid new : List Fault} {parameter : ParameterValue} {rest : List ParameterValue} →
      IsReport (parameter_report parameter.kind (record { text = parameter.name.text; span = parameter.name.span }) (run_span parameter.run) o) o' old mid →
      ReadsParameters o' o'' mid new rest → ReadsParameters o o'' old new (parameter ∷ rest)

-- Reading the attributes of an enum changes the options from `o` to `o'`, and adds their faults, in
-- order.
pub data ReadsAttributes : (o : OptionsView) (o' : OptionsView) (old new : List Fault) → TokenList → Type 0 where
  no_attribute : {o : OptionsView} {faults : List Fault} {run : TokenList} → attribute_in run ≡ None → ReadsAttributes o o faults faults run
  one_attribute : {o : OptionsView} {o' : OptionsView} {o'' : OptionsView} {old mid new : List Fault} {run : TokenList} {split : SplitAttribute} → attribute_in run ≡ Some split →
      ReadsAttribute o o' old mid split.attribute → ReadsAttributes o' o'' mid new split.rest → ReadsAttributes o o'' old new run

-- A type that is given to a parameter, without its span.
abbrev pub param_of : Given → ParamValue
param_of given = record { name = given.name.text; type = given.type }

-- The leaves of the skips and variants of an enum with these options. First the parameters whose
-- types contain them are reported, then the subpatterns are read. The leaves of the skips come
-- before those of the variants. The faults of each step are added after those of the steps before
-- it.
pub record YieldsLeaves (o : OptionsView) (variants : List VariantValue) (leaves : List LeafView) (old new : List Fault) : Type 0 where
  pub params : Params
  pub names : List Stored
  pub skips : List LeafView
  pub of_held : List Fault
  pub of_subpatterns : List Fault
  pub of_skips : List Fault
  pub given : params.types ≡ map param_of o.types.types
  pub checked : AreChecked params.types [] o.types.names old of_held
  pub held : AreHeld params.types params.held
  pub subpatterns : AreAdded (utf8_mode o) o.subpatterns [] names of_held of_subpatterns
  pub skips_add : SkipsAdd names o.skips [] skips of_subpatterns of_skips
  pub variants_add : VariantsAdd params names variants skips leaves of_skips new

-- The options and the leaves of an enum, and the faults of its parts: those of its parameters, of
-- its attributes, and of the leaves of its attributes and variants.
pub record ReadsSource (item : EnumValue) (o : OptionsView) (leaves : List LeafView) (new : List Fault) : Type 0 where
  pub declared : OptionsView
  pub of_parameters : List Fault
  pub of_attributes : List Fault
  pub parameters : ReadsParameters no_options declared [] of_parameters item.parameters
  pub attributes : ReadsAttributes declared o of_parameters of_attributes item.attributes
  pub leaves_read : YieldsLeaves o item.variants leaves of_attributes new

-- The options without the skips.
abbrev pub IsWithoutSkips : OptionsView → OptionsView → Type 0
IsWithoutSkips options others = others ≡ record options { skips = [] }

-- An enum was read: these are its leaves, its options without the skips, which have become leaves,
-- and the faults of its parts.
pub record IsSourceRead (item : EnumValue) (leaves : List LeafView) (others : OptionsView) (faults : List Fault) : Type 0 where
  pub options : OptionsView
  pub reads_as : ReadsSource item options leaves faults
  pub same : IsWithoutSkips options others
