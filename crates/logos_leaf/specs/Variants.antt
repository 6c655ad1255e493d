-- The leaves of variants, and the faults of the attributes that define them.
use Rattle.std.specs.Prelude.{◌≡◌, ℕ, Bool, true, false, List, [], ◌∷◌, ◌++◌, length, codes, Option, Some, None}
use Rattle.std.specs.Option.{option_to_list}
use Rattle.std.specs.Str.{bytes_eq}
use Rattle.logos_lexeme.specs.declared.lexeme.Span.{Span}
use Rattle.logos_token.specs.Faults.{Fault}
use Rattle.logos_token.specs.Tokens.{TokenList, run_span}
use Rattle.logos_token.specs.declared.token.Ident.{Ident}
use Rattle.logos_type.specs.Parts.{Tree as TypeTree}
use Rattle.logos_type_params.specs.Substitution.{Params}
use Rattle.logos_type_params.specs.WrittenTypes.{GetsType}
use Rattle.logos_enum.specs.AttributeValues.{AttributeValue, SplitAttribute, attribute_in}
use Rattle.logos_enum.specs.EnumValues.{FieldValue, FieldsValue, no_fields, in_parenthesis, in_braces, VariantValue}
use Rattle.logos_enum.specs.Values.{ident_slice}
use Rattle.logos_pattern.specs.Leaf.{KindValue, plain, holding, skipped}
use Rattle.logos_attribute.specs.Reports.{IsReport, AddsFault}
use Rattle.logos_definition.specs.Definitions.{DefinitionView}
use Rattle.logos_definition.specs.Metas.{Meta, meta_of}
use Rattle.logos_definition.specs.Attributes.{meta_report}
use Rattle.logos_leaf.specs.subpattern.Substitution.{Stored}
use Rattle.logos_leaf.specs.Leaves.{LeafView, IsTokenLeaf, IsRegexLeaf}
use Rattle.logos_leaf.specs.VariantFaults.{variant_fields, count_faults, named_fields, error_variant, token_form, regex_form}

-- A variant has a field of this type, with the parameters in it replaced.
pub data HoldsType (params : Params) (name : Ident) (field : FieldValue) (old new : List Fault) : KindValue → Type 0 where
  holds : {type : TypeTree} → GetsType params field.type (run_span field.run) old new type → HoldsType params name field old new (holding name type)

-- The kind of a variant. A variant with empty parentheses, or with named fields, is reported and
-- then read as a skip. A variant with two or more fields is reported, and its kind has the type of
-- the first field.
pub data KindIs (params : Params) (name : Ident) (old new : List Fault) : FieldsValue → KindValue → Type 0 where
  no_field : new ≡ old → KindIs params name old new no_fields (plain name)
  empty : {span : Span} → AddsFault (variant_fields 0 span) old new → KindIs params name old new (in_parenthesis span []) skipped
  with_first : {span : Span} {field : FieldValue} {others : List FieldValue} {kind : KindValue} {mid : List Fault} →
      mid ≡ old ++ count_faults (length (field ∷ others)) span → HoldsType params name field mid new kind → KindIs params name old new (in_parenthesis span (field ∷ others)) kind
  with_names : {span : Span} {fields : List FieldValue} → AddsFault (named_fields span) old new → KindIs params name old new (in_braces span fields) skipped

-- The attribute has this name.
abbrev pub is_named : Option Meta → List ℕ → Bool
is_named None text = false
is_named (Some meta) text = bytes_eq meta.name.text text

-- The leaf of a `token` attribute, if it has one. An attribute without a definition is reported,
-- after the faults of the definition.
pub data TokenYields (kind : KindValue) (attribute : AttributeValue) (old new : List Fault) : Option LeafView → Type 0 where
  no_token : {mid : List Fault} → IsReport (meta_report (meta_of attribute)) None old mid → AddsFault (token_form attribute.span) mid new → TokenYields kind attribute old new None
  a_token : {mid : List Fault} {definition : DefinitionView} {leaf : Option LeafView} → IsReport (meta_report (meta_of attribute)) (Some definition) old mid →
      IsTokenLeaf definition kind leaf mid new → TokenYields kind attribute old new leaf

-- The leaf of a `regex` attribute, if it has one.
pub data RegexYields (names : List Stored) (kind : KindValue) (attribute : AttributeValue) (old new : List Fault) : Option LeafView → Type 0 where
  no_regex : {mid : List Fault} → IsReport (meta_report (meta_of attribute)) None old mid → AddsFault (regex_form attribute.span) mid new → RegexYields names kind attribute old new None
  a_regex : {mid : List Fault} {definition : DefinitionView} {leaf : Option LeafView} → IsReport (meta_report (meta_of attribute)) (Some definition) old mid →
      IsRegexLeaf definition kind names leaf mid new → RegexYields names kind attribute old new leaf

-- The leaf of an attribute of a variant, if it has one, according to the attribute's name.
-- Attributes with other names have none.
pub data AttributeYields (names : List Stored) (kind : KindValue) (attribute : AttributeValue) (old new : List Fault) : Option LeafView → Type 0 where
  on_error : is_named (meta_of attribute) (codes "error") ≡ true → AddsFault (error_variant attribute.span) old new → AttributeYields names kind attribute old new None
  on_token : {leaf : Option LeafView} → is_named (meta_of attribute) (codes "token") ≡ true → TokenYields kind attribute old new leaf → AttributeYields names kind attribute old new leaf
  on_regex : {leaf : Option LeafView} → is_named (meta_of attribute) (codes "regex") ≡ true → RegexYields names kind attribute old new leaf → AttributeYields names kind attribute old new leaf
  on_other : is_named (meta_of attribute) (codes "error") ≡ false → is_named (meta_of attribute) (codes "token") ≡ false → is_named (meta_of attribute) (codes "regex") ≡ false →
      new ≡ old → AttributeYields names kind attribute old new None

-- Reading a run of attributes adds their leaves and their faults, in order.
pub data AttributesAdd (names : List Stored) (kind : KindValue) : TokenList → (before after : List LeafView) → (old new : List Fault) → Type 0 where
  no_attribute : {run : TokenList} {leaves : List LeafView} {faults : List Fault} → attribute_in run ≡ None → AttributesAdd names kind run leaves leaves faults faults
  one_attribute : {run : TokenList} {split : SplitAttribute} {leaf : Option LeafView} {before after : List LeafView} {old mid new : List Fault} → attribute_in run ≡ Some split →
      AttributeYields names kind split.attribute old mid leaf → AttributesAdd names kind split.rest (before ++ option_to_list leaf) after mid new →
      AttributesAdd names kind run before after old new

-- Reading a variant adds its leaves and its faults.
pub record VariantAdds (params : Params) (names : List Stored) (variant : VariantValue) (before after : List LeafView) (old new : List Fault) : Type 0 where
  pub name : Ident
  pub is_name : ident_slice name ≡ variant.name
  pub kind : KindValue
  pub mid : List Fault
  pub is_kind : KindIs params name old mid variant.fields kind
  pub add : AttributesAdd names kind variant.attributes before after mid new

-- Reading variants adds their leaves and their faults, in order.
pub data VariantsAdd (params : Params) (names : List Stored) : List VariantValue → (before after : List LeafView) → (old new : List Fault) → Type 0 where
  no_variant : {leaves : List LeafView} {faults : List Fault} → VariantsAdd params names [] leaves leaves faults faults
  one_variant : {variant : VariantValue} {rest : List VariantValue} {before middle after : List LeafView} {old mid new : List Fault} →
      VariantAdds params names variant before middle old mid → VariantsAdd params names rest middle after mid new → VariantsAdd params names (variant ∷ rest) before after old new

-- Reading the definitions of `skip` adds their leaves and their faults, in order.
pub data SkipsAdd (names : List Stored) : List DefinitionView → (before after : List LeafView) → (old new : List Fault) → Type 0 where
  no_skip : {leaves : List LeafView} {faults : List Fault} → SkipsAdd names [] leaves leaves faults faults
  one_skip : {definition : DefinitionView} {rest : List DefinitionView} {leaf : Option LeafView} {before after : List LeafView} {old mid new : List Fault} →
      IsRegexLeaf definition skipped names leaf old mid → SkipsAdd names rest (before ++ option_to_list leaf) after mid new → SkipsAdd names (definition ∷ rest) before after old new
