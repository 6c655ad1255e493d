-- Probable mistakes in an enum that are not faults.
use Rattle.std.specs.Prelude.{◌≡◌, ◌⊎◌, ◌==◌, ◌++◌, ℕ, Bool, true, false, IsTrue, List, [], ◌∷◌, codes, Option, Some, None, option_and_then, if◌then◌else◌}
use Rattle.std.specs.Str.{bytes_eq}
use Rattle.logos_lexeme.specs.declared.lexeme.Span.{Span}
use Rattle.logos_token.specs.First.{after_path_mark, after_word}
use Rattle.logos_token.specs.Tokens.{TokenList, identifier, punctuation, also}
use Rattle.logos_enum.specs.AttributeValues.{AttributeValue, SplitAttribute, attribute_in}
use Rattle.logos_enum.specs.EnumValues.{EnumValue, VariantValue}
use Rattle.logos_warnings.specs.Helpers.{Intends, is_helper_name}
use Rattle.logos_warnings.specs.declared.attributes.AttributeSite.{AttributeSite}
use Rattle.logos_warnings.specs.declared.attributes.AttributeSite.TheVariants.{OnEnum, OnVariant, OnLeaf}
use Rattle.logos_warnings.specs.declared.helper.Helper.{Helper}
use Rattle.logos_warnings.specs.declared.mistakes.Mistake.{Mistake}
use Rattle.logos_warnings.specs.declared.mistakes.Mistake.TheVariants.{Misspelled, Qualified, Useless, Conditional, NoPattern, NoDerive}

-- ---- Attributes

-- Whether a run begins with `:`.
abbrev pub begins_with_colon : TokenList → Bool
begins_with_colon (also (punctuation character spacing span) rest) = character == 58
begins_with_colon run = false

-- The name of an attribute whose path is one identifier, from the run between its brackets.
abbrev pub name_in : TokenList → Option (List ℕ)
name_in (also (identifier text span) rest) = if begins_with_colon rest then None else Some text
name_in run = None

-- The name of an attribute, if it has brackets and its path is one identifier.
abbrev pub name_of : AttributeValue → Option (List ℕ)
name_of attribute = option_and_then name_in attribute.inside

-- The run exists, and the test holds of it.
abbrev pub holds_after : (TokenList → Bool) → Option TokenList → Bool
holds_after test None = false
holds_after test (Some rest) = test rest

-- A run begins with the name of a helper attribute.
abbrev pub begins_with_helper : TokenList → Bool
begins_with_helper (also (identifier text span) rest) = is_helper_name text
begins_with_helper run = false

-- A run begins with `::` and the name of a helper attribute.
abbrev pub is_helper_segment : TokenList → Bool
is_helper_segment run = holds_after begins_with_helper (after_path_mark run)

-- A run begins with `logos::` and the name of a helper attribute.
abbrev pub is_helper_path : TokenList → Bool
is_helper_path run = holds_after is_helper_segment (after_word (codes "logos") run)

-- Whether the path of an attribute is `logos::` and the name of a helper attribute.
abbrev pub is_qualified : AttributeValue → Bool
is_qualified attribute = holds_after is_helper_path attribute.inside

-- An attribute has the name of a helper attribute.
pub record IsHelper (attribute : AttributeValue) : Type 0 where
  pub name : List ℕ
  pub named : name_of attribute ≡ Some name
  pub helper : IsTrue (is_helper_name name)

-- One of the attributes of a run is a helper attribute.
pub data HasHelper : TokenList → Type 0 where
  here : {run : TokenList} {split : SplitAttribute} → attribute_in run ≡ Some split → IsHelper split.attribute → HasHelper run
  later : {run : TokenList} {split : SplitAttribute} → attribute_in run ≡ Some split → HasHelper split.rest → HasHelper run

-- One of these variants has a helper attribute.
pub data VariantsHave : List VariantValue → Type 0 where
  first_has : {variant : VariantValue} {more : List VariantValue} → HasHelper variant.attributes → VariantsHave (variant ∷ more)
  more_have : {variant : VariantValue} {more : List VariantValue} → VariantsHave more → VariantsHave (variant ∷ more)

-- An enum has a helper attribute, or one of its variants does.
abbrev pub HasHelpers : EnumValue → Type 0
HasHelpers item = HasHelper item.attributes ⊎ VariantsHave item.variants

-- ---- Mistakes

pub data MistakeValue : Type 0 where
  -- The name of the attribute at this span is probably a misspelled name of a helper attribute.
  misspelled : (name : List ℕ) (intended : Helper) (span : Span) → MistakeValue
  -- The path of the attribute at this span is `logos::` and the name of a helper attribute.
  qualified : (span : Span) → MistakeValue
  -- The attribute at this span has no effect at its site.
  useless : (span : Span) → MistakeValue
  -- A variant with a pattern is under the condition at this span.
  conditional : (span : Span) → MistakeValue
  -- No variant of the enum whose name has this span has a pattern.
  no_pattern : (span : Span) → MistakeValue
  -- The enum whose name has this span has helper attributes and does not derive `Logos`.
  no_derive : (span : Span) → MistakeValue

-- The view of a mistake.
abbrev pub mistake_value : Mistake → MistakeValue
mistake_value (Misspelled name intended span) = misspelled name.now intended span
mistake_value (Qualified span) = qualified span
mistake_value (Useless span) = useless span
mistake_value (Conditional span) = conditional span
mistake_value (NoPattern span) = no_pattern span
mistake_value (NoDerive span) = no_derive span

-- The span of a mistake.
abbrev pub span_of : MistakeValue → Span
span_of (misspelled name intended span) = span
span_of (qualified span) = span
span_of (useless span) = span
span_of (conditional span) = span
span_of (no_pattern span) = span
span_of (no_derive span) = span

-- Whether an attribute with this name has no effect at the site: `logos` on a variant.
abbrev pub is_useless : AttributeSite → List ℕ → Bool
is_useless OnEnum name = false
is_useless OnVariant name = bytes_eq name (codes "logos")
is_useless OnLeaf name = bytes_eq name (codes "logos")

-- Whether an attribute with this name compiles a pattern conditionally: `cfg` on a variant with a
-- helper attribute.
abbrev pub is_conditional : AttributeSite → List ℕ → Bool
is_conditional OnEnum name = false
is_conditional OnVariant name = false
is_conditional OnLeaf name = bytes_eq name (codes "cfg")

-- The mistakes that an attribute adds.
pub data AttributeAdds (site : AttributeSite) (attribute : AttributeValue) (before : List MistakeValue) : List MistakeValue → Type 0 where
  unnamed : name_of attribute ≡ None → is_qualified attribute ≡ false → AttributeAdds site attribute before before
  with_path : name_of attribute ≡ None → is_qualified attribute ≡ true → AttributeAdds site attribute before (before ++ qualified attribute.span ∷ [])
  no_effect : {name : List ℕ} → name_of attribute ≡ Some name → IsTrue (is_useless site name) →
      AttributeAdds site attribute before (before ++ useless attribute.span ∷ [])
  with_condition : {name : List ℕ} → name_of attribute ≡ Some name → is_useless site name ≡ false → is_conditional site name ≡ true →
      AttributeAdds site attribute before (before ++ conditional attribute.span ∷ [])
  well_spelled : {name : List ℕ} → name_of attribute ≡ Some name → is_useless site name ≡ false → is_conditional site name ≡ false → Intends name None →
      AttributeAdds site attribute before before
  ill_spelled : {name : List ℕ} {intended : Helper} → name_of attribute ≡ Some name → is_useless site name ≡ false → is_conditional site name ≡ false → Intends name (Some intended) →
      AttributeAdds site attribute before (before ++ misspelled name intended attribute.span ∷ [])

-- The mistakes that the attributes of a run add, in order.
pub data RunAdds (site : AttributeSite) : TokenList → List MistakeValue → List MistakeValue → Type 0 where
  no_attribute : {run : TokenList} {before : List MistakeValue} → attribute_in run ≡ None → RunAdds site run before before
  one_attribute : {run : TokenList} {split : SplitAttribute} {before mid after : List MistakeValue} → attribute_in run ≡ Some split →
      AttributeAdds site split.attribute before mid → RunAdds site split.rest mid after → RunAdds site run before after

-- The mistakes that the attributes of a variant add, depending on whether a helper attribute is
-- among them.
pub data VariantAdds (run : TokenList) (before after : List MistakeValue) : Type 0 where
  on_leaf : HasHelper run → RunAdds OnLeaf run before after → VariantAdds run before after
  on_other : ¬ HasHelper run → RunAdds OnVariant run before after → VariantAdds run before after

-- The mistakes that the attributes of variants add, in order.
pub data VariantsAdd : List VariantValue → List MistakeValue → List MistakeValue → Type 0 where
  no_variant : {before : List MistakeValue} → VariantsAdd [] before before
  one_variant : {variant : VariantValue} {more : List VariantValue} {before mid after : List MistakeValue} →
      VariantAdds variant.attributes before mid → VariantsAdd more mid after → VariantsAdd (variant ∷ more) before after

-- The mistakes in the attributes of an enum, and then those in the attributes of its variants.
pub record NamesAdd (item : EnumValue) (before after : List MistakeValue) : Type 0 where
  pub mid : List MistakeValue
  pub of_enum : RunAdds OnEnum item.attributes before mid
  pub of_variants : VariantsAdd item.variants mid after

-- The mistakes in the attributes of an enum and its variants, and last that it does not derive
-- `Logos`.
pub record ForgetsDerive (item : EnumValue) (warnings : List MistakeValue) : Type 0 where
  pub names : List MistakeValue
  pub of_names : NamesAdd item [] names
  pub are : warnings ≡ names ++ no_derive item.name.span ∷ []

-- The mistakes in the attributes of an enum and its variants, and last that no variant has a
-- pattern.
pub record LacksPatterns (item : EnumValue) (mistakes : List MistakeValue) : Type 0 where
  pub names : List MistakeValue
  pub of_names : NamesAdd item [] names
  pub are : mistakes ≡ names ++ no_pattern item.name.span ∷ []

-- The mistakes in an enum that derives `Logos`.
pub data AreOfLexer (item : EnumValue) (mistakes : List MistakeValue) : Type 0 where
  with_patterns : VariantsHave item.variants → NamesAdd item [] mistakes → AreOfLexer item mistakes
  without : ¬ VariantsHave item.variants → LacksPatterns item mistakes → AreOfLexer item mistakes

-- The mistakes in an enum, which may derive `Logos`. An enum without helper attributes that does
-- not derive it has none.
pub data AreMistakes (item : EnumValue) (derives : Bool) : List MistakeValue → Type 0 where
  of_lexer : {mistakes : List MistakeValue} → derives ≡ true → AreOfLexer item mistakes → AreMistakes item derives mistakes
  of_forgotten : {mistakes : List MistakeValue} → derives ≡ false → HasHelpers item → ForgetsDerive item mistakes → AreMistakes item derives mistakes
  of_other : derives ≡ false → ¬ HasHelpers item → AreMistakes item derives []
