-- The warnings for an enum: those about its mistakes, and those about attributes that its lexer
-- ignores.
use Rattle.std.specs.Prelude.{◌≡◌, ◌≢◌, ◌⊎◌, ◌++◌, ℕ, Bool, true, false, List, [], ◌∷◌, All, Contains, Some, Ok, Err, codes, string_bytes}
use Rattle.logos_lexeme.specs.declared.lexeme.Span.{Span}
use Rattle.logos_token.specs.Refusals.{IsRefusal}
use Rattle.logos_token.specs.Spelling.{Spells}
use Rattle.logos_token.specs.Tokens.{TokenList}
use Rattle.logos_token.specs.declared.token.reader.TokenError.{TokenError}
use Rattle.logos_token.specs.declared.token.reader.TokenError.TheVariants.{Memory}
use Rattle.logos_enum.specs.AttributeValues.{AttributeValue, SplitAttribute, attribute_in}
use Rattle.logos_enum.specs.Enum.{Reads}
use Rattle.logos_enum.specs.EnumValues.{EnumValue, VariantValue}
use Rattle.logos_enum.specs.declared.error.ReadError.{ReadError}
use Rattle.logos_report.specs.declared.warnings.Warning.{Warning}
use Rattle.logos_warnings.specs.Helpers.{helper_name}
use Rattle.logos_warnings.specs.Mistakes.{AreMistakes, MistakeValue, misspelled, qualified, useless, conditional, no_pattern, no_derive, name_of, span_of}
use Rattle.logos_warnings.specs.declared.origin.Origin.{Origin}
use Rattle.logos_warnings.specs.declared.origin.Origin.TheVariants.{File, Macro}

-- ---- Mistakes

-- The message about a mistake in the enum with this name.
abbrev pub mistake_text : List ℕ → MistakeValue → List ℕ
mistake_text name (misspelled wrong intended span) = codes "`" ++ (wrong ++ (codes "` looks like a misspelling of `" ++ (helper_name intended ++ codes "`")))
mistake_text name (qualified span) = codes "no attribute of a lexer has a path"
mistake_text name (useless span) = codes "`logos` has no effect on a variant"
mistake_text name (conditional span) = codes "the pattern of this variant belongs to the lexer, whatever this `cfg` says"
mistake_text name (no_pattern span) = codes "no variant of `" ++ (name ++ codes "` has a pattern")
mistake_text name (no_derive span) = codes "`" ++ (name ++ codes "` has attributes of a lexer and does not derive `Logos`")

-- The warning is about this mistake in the enum with this name.
pub record IsAbout (name : List ℕ) (mistake : MistakeValue) (warning : Warning) : Type 0 where
  pub message : string_bytes warning.message ≡ mistake_text name mistake
  pub span : warning.span ≡ span_of mistake

-- Whether an enum from this origin may have a `cfg` that was not applied. Before the derive macro
-- runs, the compiler has applied each `cfg`.
abbrev pub has_conditions : Origin → Bool
has_conditions File = true
has_conditions Macro = false

-- Whether a mistake is a warning for an enum from this origin.
abbrev pub is_warning : MistakeValue → Origin → Bool
is_warning (misspelled wrong intended span) origin = true
is_warning (qualified span) origin = true
is_warning (useless span) origin = true
is_warning (conditional span) origin = has_conditions origin
is_warning (no_pattern span) origin = true
is_warning (no_derive span) origin = true

-- The warnings about mistakes in the enum with this name, in order: one for each mistake that is a
-- warning for this origin.
pub data AreAbout (name : List ℕ) (origin : Origin) : List MistakeValue → List Warning → Type 0 where
  no_mistake : AreAbout name origin [] []
  is_shown : {mistake : MistakeValue} {mistakes : List MistakeValue} {warning : Warning} {warnings : List Warning} →
      is_warning mistake origin ≡ true → IsAbout name mistake warning → AreAbout name origin mistakes warnings → AreAbout name origin (mistake ∷ mistakes) (warning ∷ warnings)
  passed : {mistake : MistakeValue} {mistakes : List MistakeValue} {warnings : List Warning} →
      is_warning mistake origin ≡ false → AreAbout name origin mistakes warnings → AreAbout name origin (mistake ∷ mistakes) warnings

-- The warning about a mistake was added, if the mistake is a warning for this origin. The added
-- warnings, followed by the warnings about any further mistakes, are the warnings about all of
-- these mistakes in order.
pub record AddsAbout (name : List ℕ) (origin : Origin) (mistake : MistakeValue) (old new : List Warning) : Type 0 where
  pub added : List Warning
  pub is : new ≡ old ++ added
  pub completes : (mistakes : List MistakeValue) (warnings : List Warning) → AreAbout name origin mistakes warnings → AreAbout name origin (mistake ∷ mistakes) (added ++ warnings)

-- ---- Ignored attributes

-- A run of attributes contains this one.
pub data HasAttribute (attribute : AttributeValue) : TokenList → Type 0 where
  is_first : {run : TokenList} {split : SplitAttribute} → attribute_in run ≡ Some split → split.attribute ≡ attribute → HasAttribute attribute run
  is_later : {run : TokenList} {split : SplitAttribute} → attribute_in run ≡ Some split → HasAttribute attribute split.rest → HasAttribute attribute run

-- The warning has this span.
abbrev pub IsAt : Span → Warning → Type 0
IsAt span warning = warning.span ≡ span

-- The warning is about this attribute, which a lexer ignores: `end`, from an older version, or
-- `cfg_attr`.
pub record IsAboutIgnored (attribute : AttributeValue) (warning : Warning) : Type 0 where
  pub named : (name_of attribute ≡ Some (codes "end")) ⊎ (name_of attribute ≡ Some (codes "cfg_attr"))
  pub span : warning.span ≡ attribute.span

-- The warning is about an ignored attribute of a run.
pub record IsIgnoredIn (run : TokenList) (warning : Warning) : Type 0 where
  pub attribute : AttributeValue
  pub has : HasAttribute attribute run
  pub about : IsAboutIgnored attribute warning

-- The warning is about an ignored attribute of a variant.
pub record IsIgnoredOn (variants : List VariantValue) (warning : Warning) : Type 0 where
  pub variant : VariantValue
  pub has : Contains variants variant
  pub ignored : IsIgnoredIn variant.attributes warning

-- The warning is about an ignored attribute of an enum or of one of its variants.
abbrev pub IsIgnored : EnumValue → Warning → Type 0
IsIgnored item warning = IsIgnoredIn item.attributes warning ⊎ IsIgnoredOn item.variants warning

-- ---- Enums

-- Warnings were added, each of which satisfies `Holds`.
pub record AddsEach (Holds : Warning → Type 0) (old new : List Warning) : Type 0 where
  pub added : List Warning
  pub is : new ≡ old ++ added
  pub each : All Holds added

-- The warnings for an enum, which may derive `Logos`: those about its mistakes, and then those
-- about attributes that its lexer ignores.
pub record AreOfEnum (item : EnumValue) (derives : Bool) (origin : Origin) (warnings : List Warning) : Type 0 where
  pub mistakes : List MistakeValue
  pub are : AreMistakes item derives mistakes
  pub front : List Warning
  pub about : AreAbout item.name.text origin mistakes front
  pub ignored : AddsEach (IsIgnored item) front warnings

-- The warnings for the tokens of an enum. Tokens that do not spell one have none.
pub data AreOfTokens (tokens : TokenList) (derives : Bool) (origin : Origin) (warnings : List Warning) : Type 0 where
  of_enum : {item : EnumValue} → Reads tokens (Ok item) → AreOfEnum item derives origin warnings → AreOfTokens tokens derives origin warnings
  of_other : {error : ReadError} → Reads tokens (Err error) → warnings ≡ [] → AreOfTokens tokens derives origin warnings

-- The warnings for the text of an enum. A text without tokens has none.
pub data AreOfText (text : List ℕ) (derives : Bool) (origin : Origin) (warnings : List Warning) : Type 0 where
  of_tokens : {tokens : TokenList} → Spells text tokens → AreOfTokens tokens derives origin warnings → AreOfText text derives origin warnings
  of_unread : {error : TokenError} → IsRefusal text error → error ≢ Memory → warnings ≡ [] → AreOfText text derives origin warnings

-- ---- Files

-- The warning is that an entry of a `derive` is ignored.
abbrev pub IsPassedOver : Warning → Type 0
IsPassedOver warning = string_bytes warning.message ≡ codes "this derive of `Logos` is passed over"
