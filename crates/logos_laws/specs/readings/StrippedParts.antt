-- The result of stripping an enum, part by part: attributes, variants, fields, and the tokens
-- between them, which stay.
use Rattle.std.specs.Prelude.{◌≡◌, IsTrue, true, List, [], ◌∷◌, ◌++◌, Option, Some}
use Rattle.logos_lexeme.specs.declared.lexeme.Span.{Span}
use Rattle.logos_lexeme.specs.declared.lexeme.Delimiter.TheVariants.{Parenthesis, Brace}
use Rattle.logos_token.specs.Tokens.{Token, TokenList, identifier, group, none, also, append}
use Rattle.logos_enum.specs.EnumValues.{EnumValue, VariantValue, FieldValue, FieldsValue, no_fields, in_parenthesis, in_braces}
use Rattle.logos_strip.specs.Helpers.{is_comma}
use Rattle.logos_strip.specs.Stripping.{left}
use Rattle.logos_laws.specs.readings.Stays.{stay, attributes_stay, derive_without_macro, unchanged, are_attributes, are_plain, is_number, begins_word}

-- Items with commas between them, and optionally one after the last: the commas stay.
pub data ItemsStay {A : Type 0} (Item : A → TokenList → List (Option Token) → Type 0) : List A → TokenList → List (Option Token) → Type 0 where
  no_item : ItemsStay Item [] none []
  last_item : {value : A} {tokens : TokenList} {pieces : List (Option Token)} → Item value tokens pieces → ItemsStay Item (value ∷ []) tokens pieces
  one_more : {value : A} {values : List A} {tokens rest : TokenList} {pieces others : List (Option Token)} (comma : Token) →
      Item value tokens pieces → IsTrue (is_comma comma) → ItemsStay Item values rest others →
      ItemsStay Item (value ∷ values) (append tokens (also comma rest)) (pieces ++ (Some comma ∷ others))

-- A field: its attributes without the helper attributes, and its visibility, name and type.
pub record FieldStays (value : FieldValue) (tokens : TokenList) (pieces : List (Option Token)) : Type 0 where
  pub attributes : IsTrue (are_attributes value.attributes)
  pub rest : TokenList
  pub plain : IsTrue (are_plain true rest)
  pub is : tokens ≡ append value.attributes rest
  pub stays : pieces ≡ attributes_stay unchanged value.attributes ++ stay rest

-- The fields of a variant with the group around them.
pub data FieldsStay : FieldsValue → TokenList → List (Option Token) → Type 0 where
  no_group : FieldsStay no_fields none []
  a_tuple : {span : Span} {fields : List FieldValue} {inside : TokenList} {pieces : List (Option Token)} → ItemsStay FieldStays fields inside pieces →
      FieldsStay (in_parenthesis span fields) (also (group Parenthesis span inside) none) (Some (group Parenthesis span (left pieces)) ∷ [])
  with_names : {span : Span} {fields : List FieldValue} {inside : TokenList} {pieces : List (Option Token)} → ItemsStay FieldStays fields inside pieces →
      FieldsStay (in_braces span fields) (also (group Brace span inside) none) (Some (group Brace span (left pieces)) ∷ [])

-- A variant: its attributes without the helper attributes, its name, its fields, and its number.
pub record VariantStays (value : VariantValue) (tokens : TokenList) (pieces : List (Option Token)) : Type 0 where
  pub attributes : IsTrue (are_attributes value.attributes)
  pub held : TokenList
  pub held_pieces : List (Option Token)
  pub fields : FieldsStay value.fields held held_pieces
  pub number : TokenList
  pub numbered : IsTrue (is_number number)
  pub is : tokens ≡ append value.attributes (also (identifier value.name.text value.name.span) (append held number))
  pub stays : pieces ≡ attributes_stay unchanged value.attributes ++ (Some (identifier value.name.text value.name.span) ∷ (held_pieces ++ stay number))

-- `tokens` are an enum, and `remaining` is the result of stripping it: its attributes without the
-- helper attributes and without the entries of `derive` that name the macro; all tokens up to its
-- braces; and inside these the variants. Punctuation directly before a removed token is alone.
pub record EnumStays (value : EnumValue) (tokens remaining : TokenList) : Type 0 where
  pub attributes : IsTrue (are_attributes value.attributes)
  -- Visibility, `enum`, name, generic parameters and where clause.
  pub head : TokenList
  pub word : IsTrue (begins_word head)
  pub span : Span
  pub inside : TokenList
  pub pieces : List (Option Token)
  pub variants : ItemsStay VariantStays value.variants inside pieces
  pub is : tokens ≡ append value.attributes (append head (also (group Brace span inside) none))
  pub stays : remaining ≡ left (attributes_stay derive_without_macro value.attributes ++ (stay head ++ (Some (group Brace span (left pieces)) ∷ [])))
