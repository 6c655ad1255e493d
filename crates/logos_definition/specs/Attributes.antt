-- The generic parameters and the attributes of an enum.
use Rattle.std.specs.Prelude.{◌≡◌, List, [], ◌∷◌, ◌++◌, true, false, Bool, codes, Option, Some, None, if◌then◌else◌}
use Rattle.std.specs.Str.{bytes_eq}
use Rattle.logos_lexeme.specs.declared.lexeme.Span.{Span}
use Rattle.logos_token.specs.declared.error.fault_code.FaultCode.TheVariants.{LogosForm, ConstGeneric}
use Rattle.logos_token.specs.Faults.{Fault}
use Rattle.logos_token.specs.Tokens.{TokenList}
use Rattle.logos_enum.specs.declared.generics.ParameterKind.{ParameterKind}
use Rattle.logos_enum.specs.declared.generics.ParameterKind.TheVariants as kinds
use Rattle.logos_enum.specs.AttributeValues.{AttributeValue}
use Rattle.logos_type_params.specs.TypeParams.{many_lifetimes}
use Rattle.logos_attribute.specs.Slices.{Slice}
use Rattle.logos_attribute.specs.Pieces.{pieces}
use Rattle.logos_attribute.specs.Reports.{Report, with_faults, without_faults, fault, only, AddsFault}
use Rattle.logos_definition.specs.Arguments.{with_types, ReadsPieces}
use Rattle.logos_definition.specs.Definitions.{DefinitionView, definition_report}
use Rattle.logos_definition.specs.Metas.{Meta, meta_of}
use Rattle.logos_definition.specs.Options.{OptionsView}

abbrev pub logos_form : Span → Fault
logos_form span = fault LogosForm (codes "Expected #[logos(...)]") span

abbrev pub const_generic : Span → Fault
const_generic span = fault ConstGeneric (codes "Logos doesn't support const generics.") span

-- The report of a lifetime that is declared at this span.
abbrev pub lifetime_report : Span → OptionsView → Report OptionsView
lifetime_report span o =
    with_faults (with_types o (record { names = o.types.names; types = o.types.types; lifetime = true }))
    (if o.types.lifetime then only (many_lifetimes span) else [])

-- The report of a type parameter with this name.
abbrev pub name_report : Slice → OptionsView → Report OptionsView
name_report name o =
    without_faults (with_types o (record { names = o.types.names ++ (record { text = name.text; at = name.span }) ∷ []; types = o.types.types; lifetime = o.types.lifetime }))

-- The report of a generic parameter of this kind, whose tokens have this span.
abbrev pub parameter_report : ParameterKind → Slice → Span → OptionsView → Report OptionsView
parameter_report kinds.Lifetime name span o = lifetime_report span o
parameter_report kinds.Type name span o = name_report name o
parameter_report kinds.Const name span o = with_faults o (only (const_generic span))

-- Whether the name of the attribute is `logos`.
abbrev pub is_logos : Option Meta → Bool
is_logos None = false
is_logos (Some meta) = bytes_eq meta.name.text (codes "logos")

-- The result of a `logos` attribute at this span.
pub data ReadsMeta (o : OptionsView) (o' : OptionsView) (old new : List Fault) (meta : Meta) (span : Span) : Type 0 where
  no_arguments : meta.arguments ≡ None → o' ≡ o → AddsFault (logos_form span) old new → ReadsMeta o o' old new meta span
  with_arguments : {run : TokenList} → meta.arguments ≡ Some run → ReadsPieces o o' old new (pieces run) → ReadsMeta o o' old new meta span

-- The result of an attribute of an enum: it changes nothing unless its name is `logos`.
pub data ReadsAttribute (o : OptionsView) (o' : OptionsView) (old new : List Fault) (attribute : AttributeValue) : Type 0 where
  other_name : is_logos (meta_of attribute) ≡ false → o' ≡ o → new ≡ old → ReadsAttribute o o' old new attribute
  a_logos : {meta : Meta} → meta_of attribute ≡ Some meta → bytes_eq meta.name.text (codes "logos") ≡ true → ReadsMeta o o' old new meta attribute.span →
      ReadsAttribute o o' old new attribute

-- The report of the definition in the arguments of an attribute whose path is one identifier.
abbrev pub arguments_report : Option TokenList → Report (Option DefinitionView)
arguments_report None = without_faults None
arguments_report (Some run) = definition_report run

-- The report of the definition in an attribute of a variant.
abbrev pub meta_report : Option Meta → Report (Option DefinitionView)
meta_report None = without_faults None
meta_report (Some meta) = arguments_report meta.arguments
