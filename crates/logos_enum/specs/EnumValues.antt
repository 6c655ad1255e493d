-- An enum as a value: names, kinds, types, and the runs of tokens that are returned.
use Rattle.std.specs.Prelude.{List, map}
use Rattle.logos_lexeme.specs.declared.lexeme.Span.{Span}
use Rattle.logos_token.specs.Tokens.{TokenList}
use Rattle.logos_token.specs.Views.{tokens_of}
use Rattle.logos_type.specs.Parts.{Tree}
use Rattle.logos_type.specs.TypeTrees.{type_tree}
use Rattle.logos_enum.specs.declared.fields.Typed.{Typed as TypedView}
use Rattle.logos_enum.specs.declared.fields.Field.{Field}
use Rattle.logos_enum.specs.declared.fields.Fields.{Fields}
use Rattle.logos_enum.specs.declared.fields.Fields.TheVariants.{Unit, Tuple, Named}
use Rattle.logos_enum.specs.declared.variants.Variant.{Variant}
use Rattle.logos_enum.specs.declared.item.ItemEnum.{ItemEnum}
use Rattle.logos_enum.specs.Values.{Slice, ident_slice, ParameterValue, parameter_value}

-- A type, and its tokens.
pub record Typed : Type 0 where
  pub type : Tree
  pub run : TokenList

-- A field: its attributes, its type, and the tokens of the type.
pub record FieldValue : Type 0 where
  pub attributes : TokenList
  pub type : Tree
  pub run : TokenList

-- The fields of a variant: none, or fields in parentheses or braces with this span.
pub data FieldsValue : Type 0 where
  no_fields : FieldsValue
  in_parenthesis : (span : Span) (fields : List FieldValue) → FieldsValue
  in_braces : (span : Span) (fields : List FieldValue) → FieldsValue

-- A variant: its attributes, its name and its fields.
pub record VariantValue : Type 0 where
  pub attributes : TokenList
  pub name : Slice
  pub fields : FieldsValue

-- An enum as its names, its types and the runs of tokens that are returned.
pub record EnumValue : Type 0 where
  pub attributes : TokenList
  pub name : Slice
  pub parameters : List ParameterValue
  pub variants : List VariantValue

-- The type, and its tokens, that a value represents.
abbrev pub typed_value : TypedView → Typed
typed_value typed = record { type = type_tree typed.field_type; run = tokens_of typed.run }

-- The field that a value represents.
abbrev pub field_value : Field → FieldValue
field_value field = record { attributes = tokens_of field.attributes; type = type_tree field.field_type; run = tokens_of field.run }

-- The fields that a value represents.
abbrev pub fields_value : Fields → FieldsValue
fields_value Unit = no_fields
fields_value (Tuple span list) = in_parenthesis span (map field_value list.items)
fields_value (Named span list) = in_braces span (map field_value list.items)

-- The variant that a value represents.
abbrev pub variant_value : Variant → VariantValue
variant_value variant = record { attributes = tokens_of variant.attributes; name = ident_slice variant.name; fields = fields_value variant.fields }

-- The enum that a value represents.
abbrev pub enum_value : ItemEnum → EnumValue
enum_value item =
    record {
      attributes = tokens_of item.attributes;
      name = ident_slice item.name;
      parameters = map parameter_value item.parameters.items;
      variants = map variant_value item.variants.items;
    }
