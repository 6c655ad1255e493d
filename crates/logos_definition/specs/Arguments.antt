-- The arguments of a `logos` attribute, one after another. Types in them are read with the grammar
-- of types.
use Rattle.std.specs.Prelude.{◌≡◌, ◌≢◌, Bool, true, false, List, [], ◌∷◌, ◌++◌, codes, Option, Some, None}
use Rattle.std.specs.Str.{bytes_eq}
use Rattle.logos_token.specs.Faults.{Fault}
use Rattle.logos_token.specs.Tokens.{TokenList, none, run_span}
use Rattle.logos_type.specs.Parts.{Tree}
use Rattle.logos_type_params.specs.TypeParams.{Value, ReadsValue, IsSet}
use Rattle.logos_attribute.specs.Slices.{Slice}
use Rattle.logos_attribute.specs.Pieces.{PieceValue, grouped, keyed, Piece, unnamed, named, unexpected, pieces, up_to_comma, after_comma}
use Rattle.logos_attribute.specs.Reports.{IsReport, with_faults, only}
use Rattle.logos_definition.specs.ErrorTypes.{ErrorView, error_read, error_arguments_report}
use Rattle.logos_definition.specs.Options.{OptionsView, error_set, error_report, option_report}
use Rattle.logos_definition.specs.OptionFaults.{error_empty, type_form, invalid_nested}

-- The result of `error(..)`: its type is read from the tokens up to the first comma, and the other
-- arguments follow. If there is no type, the group is reported and there is no result.
pub data ErrorGroup (group : TokenList) (old new : List Fault) : Option ErrorView → Type 0 where
  nothing : up_to_comma group ≡ none → new ≡ old ++ only (error_empty group) → ErrorGroup group old new None
  no_type : up_to_comma group ≢ none → ReadsValue (up_to_comma group) (run_span group) old new None → ErrorGroup group old new None
  a_type : {mid : List Fault} {tree : Tree} {error : ErrorView} → up_to_comma group ≢ none → ReadsValue (up_to_comma group) (run_span group) old mid (Some tree) →
      IsReport (error_arguments_report true (pieces (after_comma group)) (error_read (up_to_comma group) tree)) error mid new → ErrorGroup group old new (Some error)

-- The value is in parentheses.
abbrev pub is_grouped : PieceValue → Bool
is_grouped (grouped run) = true
is_grouped value = false

-- The value follows a second name.
abbrev pub is_keyed : PieceValue → Bool
is_keyed (keyed name run) = true
is_keyed value = false

-- The result of `error`, and whether the arguments after it are read: they are not read if
-- `error(..)` has no type.
pub data ReadsError (name : Slice) (o : OptionsView) (o' : OptionsView) (old new : List Fault) : PieceValue → Bool → Type 0 where
  alone : {value : PieceValue} → is_grouped value ≡ false → IsReport (error_report name value o) o' old new → ReadsError name o o' old new value true
  with_arguments : {group : TokenList} {mid : List Fault} {error : ErrorView} → ErrorGroup group old mid (Some error) → IsReport (error_set group error o) o' mid new →
      ReadsError name o o' old new (grouped group) true
  without_type : {group : TokenList} → ErrorGroup group old new None → o' ≡ o → ReadsError name o o' old new (grouped group) false

-- The options with other type parameters.
abbrev pub with_types : OptionsView → Value → OptionsView
with_types o types = record o { types = types }

-- The result of `type`.
pub data ReadsType (name : Slice) (o : OptionsView) (o' : OptionsView) (old new : List Fault) : PieceValue → Type 0 where
  is_given : {second : Slice} {run : TokenList} {types : Value} → IsSet o.types (record { text = second.text; at = second.span }) run old types new → o' ≡ with_types o types →
      ReadsType name o o' old new (keyed second run)
  other_form : {value : PieceValue} → is_keyed value ≡ false → IsReport (with_faults o (only (type_form name))) o' old new → ReadsType name o o' old new value

-- The result of an argument, and whether the arguments after it are read.
pub data ReadsPiece (o : OptionsView) (o' : OptionsView) (old new : List Fault) : Piece → Bool → Type 0 where
  on_error : {name : Slice} {value : PieceValue} {continues : Bool} → bytes_eq name.text (codes "error") ≡ true → ReadsError name o o' old new value continues →
      ReadsPiece o o' old new (named name value) continues
  on_type : {name : Slice} {value : PieceValue} → bytes_eq name.text (codes "error") ≡ false → bytes_eq name.text (codes "type") ≡ true → ReadsType name o o' old new value →
      ReadsPiece o o' old new (named name value) true
  on_other : {name : Slice} {value : PieceValue} → bytes_eq name.text (codes "error") ≡ false → bytes_eq name.text (codes "type") ≡ false → IsReport (option_report name value o) o' old new →
      ReadsPiece o o' old new (named name value) true
  without_name : {run : TokenList} → IsReport (with_faults o (only (invalid_nested run))) o' old new → ReadsPiece o o' old new (unnamed run) true
  no_argument : {run : TokenList} → IsReport (with_faults o (only (invalid_nested run))) o' old new → ReadsPiece o o' old new (unexpected run) true

-- The result of all arguments, up to one after which no more arguments are read.
pub data ReadsPieces : (o : OptionsView) (o' : OptionsView) (old new : List Fault) → List Piece → Type 0 where
  no_piece : {o : OptionsView} {faults : List Fault} → ReadsPieces o o faults faults []
  one_more : {o : OptionsView} {o' : OptionsView} {o'' : OptionsView} {old mid new : List Fault} {piece : Piece} {rest : List Piece} →
      ReadsPiece o o' old mid piece true → ReadsPieces o' o'' mid new rest → ReadsPieces o o'' old new (piece ∷ rest)
  ends : {o : OptionsView} {o' : OptionsView} {old new : List Fault} {piece : Piece} {rest : List Piece} → ReadsPiece o o' old new piece false → ReadsPieces o o' old new (piece ∷ rest)
