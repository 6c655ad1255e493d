-- The analysis of a source.
use Rattle.std.specs.Prelude.{◌≡◌, ℕ, List, [], ◌++◌, Ok}
use Rattle.logos_lexeme.specs.declared.lexeme.Span.{Span}
use Rattle.logos_token.specs.Faults.{Fault}
use Rattle.logos_token.specs.Tokens.{TokenList, run_span}
use Rattle.logos_enum.specs.Enum.{Reads}
use Rattle.logos_enum.specs.EnumValues.{EnumValue}
use Rattle.logos_enum.specs.Values.{Slice}
use Rattle.logos_type.specs.Parts.{Tree}
use Rattle.logos_type_params.specs.Generics.{generics, missing_types}
use Rattle.logos_definition.specs.Options.{OptionsView, utf8_mode}
use Rattle.logos_leaf.specs.Leaves.{LeafView}
use Rattle.logos_leaf.specs.Sources.{IsSourceRead}
use Rattle.logos_parser.specs.Endings.{YieldsEnum}
use Rattle.logos_parser.specs.EnumTypes.{enum_type}
use Rattle.logos_parser.specs.Utf8Faults.{utf8_faults}

-- The faults of the type parameters without a type, in order of declaration.
abbrev pub type_faults : OptionsView → List Fault
type_faults options = missing_types options.types.types [] options.types.names

-- The leaves and the options of an enum, and all its faults but those of its graph: first those of
-- its parts, then in UTF-8 mode those of leaves that can match invalid UTF-8, then those of type
-- parameters without a type.
pub record ReadsEnum (enum : EnumValue) (leaves : List LeafView) (options : OptionsView) (faults : List Fault) : Type 0 where
  pub of_parts : List Fault
  pub read : IsSourceRead enum leaves options of_parts
  pub all : faults ≡ (of_parts ++ utf8_faults (utf8_mode options) leaves) ++ type_faults options

-- An analysis in contracts.
pub record AnalysisView : Type 0 where
  pub name : Slice
  pub span : Span
  pub leaves : List LeafView
  pub options : OptionsView
  -- The type of the enum.
  pub this : Tree
  pub faults : List Fault

-- This is the type of the enum with this name and these options: its name, followed by the generic
-- arguments from the options.
abbrev pub HasItsType : Slice → OptionsView → Tree → Type 0
HasItsType name options this = this ≡ enum_type name.text (generics options.types)

-- This is the analysis of an enum whose tokens have the span `at`.
pub record IsEnumAnalysis (enum : EnumValue) (at : Span) (analysis : AnalysisView) : Type 0 where
  pub is_name : enum.name ≡ analysis.name
  pub is_span : at ≡ analysis.span
  pub reads_as : ReadsEnum enum analysis.leaves analysis.options analysis.faults
  pub is_type : HasItsType analysis.name analysis.options analysis.this

-- This is the analysis of tokens that are read as an enum.
pub record IsTokenAnalysis (tokens : TokenList) (analysis : AnalysisView) : Type 0 where
  pub enum : EnumValue
  pub reads : Reads tokens (Ok enum)
  pub of_enum : IsEnumAnalysis enum (run_span tokens) analysis

-- This is the analysis of a source that is read as an enum.
pub record IsAnalysis (source : List ℕ) (analysis : AnalysisView) : Type 0 where
  pub enum : EnumValue
  pub reads_as : YieldsEnum source enum analysis.span
  pub is_name : enum.name ≡ analysis.name
  pub enum_reads : ReadsEnum enum analysis.leaves analysis.options analysis.faults
  pub is_type : HasItsType analysis.name analysis.options analysis.this
