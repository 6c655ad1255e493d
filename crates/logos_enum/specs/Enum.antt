-- An enum: attributes, a visibility, `enum`, a name, generic parameters, a where clause, and braces
-- with variants.
use Rattle.std.specs.Prelude.{◌≡◌, ◌==◌, if◌then◌else◌, List, Bool, true, false, Some, None, Result, Ok, Err, codes}
use Rattle.std.specs.Str.{bytes_eq}
use Rattle.logos_lexeme.specs.declared.lexeme.Delimiter.TheVariants.{Brace}
use Rattle.logos_token.specs.Tokens.{TokenList, identifier, punctuation, group, none, also, append, run_span}
use Rattle.logos_type.specs.Parts.{Tree}
use Rattle.logos_type_reader.specs.Table.{Fault, unsupported, mismatch as type_mismatch, too_deep}
use Rattle.logos_type_reader.specs.declared.reader.TypeFault.{TypeFault}
use Rattle.logos_type_reader.specs.declared.reader.TypeFault.TheVariants as faults
use Rattle.logos_type_reader.specs.TypeExprs.{IsTypeExpr, NoTypeExpr}
use Rattle.logos_enum.specs.declared.error.ReadError.{ReadError}
use Rattle.logos_enum.specs.declared.error.ReadError.TheVariants.{NotAnEnum, Grammar, TypeUnsupported, LimitTypeNesting, Memory}
use Rattle.logos_enum.specs.declared.extents.End.TheVariants.{OfField}
use Rattle.logos_enum.specs.Attributes.{Attributes, after_visibility, announced_in, IsFront}
use Rattle.logos_enum.specs.Extents.{after_extent}
use Rattle.logos_enum.specs.Generics.{name_in, Generics}
use Rattle.logos_enum.specs.Groups.{Opened, parenthesis_in, brace_in}
use Rattle.logos_enum.specs.Marks.{comma, colon, equals, is_none}
use Rattle.logos_enum.specs.Rules.{Outcome, Rule, mismatch, by, given, ◌>>=◌, Listed}
use Rattle.logos_enum.specs.Values.{Slice, ParameterValue}
use Rattle.logos_enum.specs.EnumValues.{Typed, FieldValue, FieldsValue, no_fields, in_parenthesis, in_braces, VariantValue, EnumValue}

-- The error for a fault of a type with these tokens.
abbrev pub type_error : TokenList → Fault → ReadError
type_error run (unsupported span) = TypeUnsupported span
type_error run (type_mismatch span) = Grammar span
type_error run too_deep = LimitTypeNesting (run_span run)

-- The error is the error of the fault, or memory ran out for both.
abbrev pub error_is : TokenList → TypeFault → ReadError → Type 0
error_is run (faults.Unsupported span) error = error ≡ TypeUnsupported span
error_is run (faults.Mismatch span) error = error ≡ Grammar span
error_is run faults.LimitNesting error = error ≡ LimitTypeNesting (run_span run)
error_is run faults.Memory error = error ≡ Memory

-- The type of a field. Its tokens reach to the first comma outside angle brackets, or to the end.
pub data FieldType (run : TokenList) : Outcome Typed → Type 0 where
  fits : {type : Tree} {front rest : TokenList} →
      IsTypeExpr run type rest → run ≡ append front (after_extent OfField run) → FieldType run (Ok (record { type = type; run = front }, rest))
  fails : (fault : Fault) (front : TokenList) →
      NoTypeExpr run fault → run ≡ append front (after_extent OfField run) → FieldType run (Err (type_error front fault))

-- The tokens after an optional visibility.
abbrev pub visibility_in : TokenList → Outcome (Unit {0})
visibility_in run = Ok (tt, after_visibility run)

-- The `:` that must come first.
abbrev pub colon_in : TokenList → Outcome (Unit {0})
colon_in (also (punctuation character spacing span) rest) = if character == colon then Ok (tt, rest) else mismatch (also (punctuation character spacing span) rest)
colon_in run = mismatch run

-- A name and `:`, if fields have names.
abbrev pub label : Bool → Rule (Unit {0})
label true = by name_in >>= λ _. by colon_in
label false = given tt

-- The field with these attributes and this type.
abbrev pub field_of : TokenList → Typed → FieldValue
field_of attributes typed = record { attributes = attributes; type = typed.type; run = typed.run }

-- A field: attributes, a visibility, a name if fields have names, and a type.
abbrev pub field : Bool → Rule FieldValue
field named = Attributes >>= λ attributes. by visibility_in >>= λ _. label named >>= λ _. FieldType >>= λ typed. given (field_of attributes typed)

-- Fields, separated by commas, up to the end of a group.
abbrev pub fields : Bool → Rule (List FieldValue)
fields named = Listed is_none (field named)

-- The result of reading the inside of a group, with the tokens after the group.
abbrev pub within : {A B : Type 0} → (A → B) → TokenList → Outcome A → Outcome B
within make rest (Ok read) = Ok (make read.0, rest)
within make rest (Err error) = Err error

-- The fields of a variant.
pub data Holding (run : TokenList) : Outcome FieldsValue → Type 0 where
  in_tuple : (opened : Opened) (inner : Outcome (List FieldValue)) →
      parenthesis_in run ≡ Some opened → fields false opened.inside inner → Holding run (within (in_parenthesis opened.span) opened.rest inner)
  with_names : (opened : Opened) (inner : Outcome (List FieldValue)) →
      parenthesis_in run ≡ None → brace_in run ≡ Some opened → fields true opened.inside inner → Holding run (within (in_braces opened.span) opened.rest inner)
  nothing : parenthesis_in run ≡ None → brace_in run ≡ None → Holding run (Ok (no_fields, run))

-- The tokens from the first comma on.
abbrev pub from_comma : TokenList → TokenList
from_comma none = none
from_comma (also (punctuation character spacing span) rest) = if character == comma then also (punctuation character spacing span) rest else from_comma rest
from_comma (also token rest) = from_comma rest

-- At least one token, up to a comma or the end.
abbrev pub value_in : TokenList → Outcome (Unit {0})
value_in none = mismatch none
value_in (also (punctuation character spacing span) rest) = if character == comma then mismatch (also (punctuation character spacing span) rest) else Ok (tt, from_comma rest)
value_in (also token rest) = Ok (tt, from_comma rest)

-- An optional `=` and discriminant of a variant.
abbrev pub discriminant_in : TokenList → Outcome (Unit {0})
discriminant_in (also (punctuation character spacing span) rest) = if character == equals then value_in rest else Ok (tt, also (punctuation character spacing span) rest)
discriminant_in run = Ok (tt, run)

-- The variant with these attributes, this name and these fields.
abbrev pub variant_of : TokenList → Slice → FieldsValue → VariantValue
variant_of attributes name held = record { attributes = attributes; name = name; fields = held }

-- A variant: attributes, a name, its fields, and an optional discriminant.
abbrev pub variant : Rule VariantValue
variant =
    Attributes >>= λ attributes. by name_in >>= λ name. Holding >>= λ held. by discriminant_in >>= λ _. given (variant_of attributes name held)

-- Variants, separated by commas, up to the end of the braces.
abbrev pub variants : Rule (List VariantValue)
variants = Listed is_none variant

-- The tokens from the first brace on.
abbrev pub from_brace : TokenList → TokenList
from_brace none = none
from_brace (also (group Brace span inside) rest) = also (group Brace span inside) rest
from_brace (also token rest) = from_brace rest

-- The tokens after a where clause: from the first brace on that is not inside another group.
abbrev pub where_in : TokenList → Outcome (Unit {0})
where_in (also (identifier text span) rest) = if bytes_eq text (codes "where") then Ok (tt, from_brace rest) else Ok (tt, also (identifier text span) rest)
where_in run = Ok (tt, run)

-- Braces with variants.
pub data Body (run : TokenList) : Outcome (List VariantValue) → Type 0 where
  braced : (opened : Opened) (inner : Outcome (List VariantValue)) →
      brace_in run ≡ Some opened → variants opened.inside inner → Body run (within (λ (list : List VariantValue). list) opened.rest inner)
  lacking : brace_in run ≡ None → Body run (mismatch run)

-- No token is left.
abbrev pub end_in : TokenList → Outcome (Unit {0})
end_in none = Ok (tt, none)
end_in run = mismatch run

-- The enum with these attributes, this name, these parameters and these variants.
abbrev pub enum_of : TokenList → Slice → List ParameterValue → List VariantValue → EnumValue
enum_of attributes name parameters list = record { attributes = attributes; name = name; parameters = parameters; variants = list }

-- The tokens after `enum`: a name, generic parameters, a where clause and braces, and nothing after
-- the braces.
abbrev pub item : TokenList → Rule EnumValue
item attributes =
    by name_in >>= λ name. Generics >>= λ parameters. by where_in >>= λ _. Body >>= λ list. by end_in >>= λ _. given (enum_of attributes name parameters list)

-- The run does not begin with well-formed attributes, an optional visibility and `enum`.
pub data NoFront (run : TokenList) : Type 0 where
  malformed : (error : ReadError) → Attributes run (Err error) → NoFront run
  without : (attributes middle : TokenList) → Attributes run (Ok (attributes, middle)) → announced_in middle ≡ None → NoFront run

-- The result of reading a run of tokens: the enum that it is, or its first fault.
pub data Reads (run : TokenList) : Result EnumValue ReadError → Type 0 where
  reads : {attributes rest : TokenList} {value : EnumValue} → IsFront run attributes rest → item attributes rest (Ok (value, none)) → Reads run (Ok value)
  refuses : {attributes rest : TokenList} {error : ReadError} → IsFront run attributes rest → item attributes rest (Err error) → Reads run (Err error)
  unannounced : NoFront run → Reads run (Err (NotAnEnum (run_span run)))
