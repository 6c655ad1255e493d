-- The result of `error(..)`, by the result of reading its type.
use Rattle.std.proofs.Common.{◌≡◌, ◌≢◌, List, true, Option, Some, None}
use Rattle.std.specs.Prelude.{option_map}
use Rattle.logos_lexeme.specs.declared.lexeme.Span.{Span}
use Rattle.logos_token.specs.Faults.{Fault}
use Rattle.logos_token.specs.Tokens.{TokenList, none, run_span}
use Rattle.logos_type.specs.Parts.{Tree}
use Rattle.logos_type_params.specs.TypeParams.{ReadsValue}
use Rattle.logos_attribute.specs.Pieces.{pieces, up_to_comma, after_comma}
use Rattle.logos_attribute.specs.Reports.{IsReport}
use Rattle.logos_definition.specs.ErrorTypes.{ErrorView, error_read, error_arguments_report}
use Rattle.logos_definition.specs.Arguments.{ErrorGroup, no_type, a_type}

module _ {X : Type 0} (f : X → Tree) (group run : TokenList) (at : Span) (old mid : List Fault) (front : run ≡ up_to_comma group) (some : up_to_comma group ≢ none) (whole : at ≡ run_span group) where
  -- no type was read
  pub group_without_type : (read : Option X) → read ≡ None → ReadsValue run at old mid (option_map f read) → ErrorGroup group old mid None
  group_without_type None e r = no_type some (rw (front, whole) at r)
  group_without_type (Some x) e r = absurd (let k : Some x ≡ None = e in cc)

  -- a type was read, and the arguments after it
  pub group_with_type : (new : List Fault) (error : ErrorView) (read : Option X) (type : X) → read ≡ Some type → ReadsValue run at old mid (option_map f read) →
      IsReport (error_arguments_report true (pieces (after_comma group)) (error_read run (f type))) error mid new → ErrorGroup group old new (Some error)
  group_with_type new error read type e r t = a_type some (rw (front, whole) at (rw e at r)) (rw front at t)
