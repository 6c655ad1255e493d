-- Error types and their callbacks.
use Rattle.std.specs.Prelude.{ℕ, Bool, false, List, [], ◌∷◌, ◌++◌, codes, Option, Some, None, if◌then◌else◌}
use Rattle.std.specs.Str.{bytes_eq}
use Rattle.logos_lexeme.specs.declared.lexeme.Span.{Span}
use Rattle.logos_token.specs.Faults.{Fault}
use Rattle.logos_token.specs.declared.error.fault_code.FaultCode.TheVariants.{UnknownNested}
use Rattle.logos_token.specs.declared.error.detail.Detail.TheVariants.{ErrorArgument}
use Rattle.logos_token.specs.Tokens.{TokenList, none, run_span}
use Rattle.logos_token.specs.Printing.{printed}
use Rattle.logos_type.specs.Parts.{Tree}
use Rattle.logos_type.specs.Printed.{printed_type}
use Rattle.logos_attribute.specs.Slices.{Slice}
use Rattle.logos_attribute.specs.Pieces.{PieceValue, Piece, unnamed, named, unexpected}
use Rattle.logos_attribute.specs.Reports.{Report, with_faults, without_faults, and_then, map_report, fault_with, only}
use Rattle.logos_attribute.specs.Callbacks.{CallbackView}
use Rattle.logos_definition.specs.Definitions.{named_callback, unnamed_callback, unexpected_token}

-- The tokens of an error type, which is `()` without tokens; the type that was read from them, if
-- one was; and the callback that creates an error, if there is one.
pub record ErrorView : Type 0 where
  pub type_run : Option TokenList
  pub type : Option Tree
  pub callback : Option CallbackView

-- The error type of tokens that are not read as a type, without a callback.
abbrev pub error_alone : TokenList → ErrorView
error_alone run = record { type_run = Some run; type = None; callback = None }

-- The error type that was read from its tokens, without a callback.
abbrev pub error_read : TokenList → Tree → ErrorView
error_read run tree = record { type_run = Some run; type = Some tree; callback = None }

-- The error type `()`, without a callback.
abbrev pub no_error : ErrorView
no_error = record { type_run = None; type = None; callback = None }

-- The printed text of tokens, or `()` if there are none.
abbrev pub run_text : Option TokenList → List ℕ
run_text (Some run) = printed run
run_text None = codes "( )"

-- The printed text of the type that was read, if one was, and otherwise of the tokens.
abbrev pub type_or_run : Option Tree → Option TokenList → List ℕ
type_or_run (Some tree) run = printed_type tree
type_or_run None run = run_text run

-- The printed text of an error type.
abbrev pub error_text : ErrorView → List ℕ
error_text e = type_or_run e.type e.type_run

-- The span of the tokens, or 0..0 if there are none.
abbrev pub run_slot : Option TokenList → Span
run_slot (Some run) = run_span run
run_slot None = run_span none

-- The span of an error type.
abbrev pub error_span : ErrorView → Span
error_span e = run_slot e.type_run

abbrev pub unknown_error_argument : Slice → Fault
unknown_error_argument name = fault_with UnknownNested ((codes "Unknown nested attribute: " ++ name.text) ++ codes "\n\nExpected one of: callback") name.span ErrorArgument

-- The error type with this callback.
abbrev pub error_with : ErrorView → Option CallbackView → ErrorView
error_with e callback = record e { callback = callback }

-- The report of a named argument of `error(..)`.
abbrev pub error_named_report : Slice → PieceValue → ErrorView → Report ErrorView
error_named_report name value e =
    if bytes_eq name.text (codes "callback") then map_report (error_with e) (named_callback name value e.callback)
    else with_faults e (only (unknown_error_argument name))

-- The report of an argument after the type of `error(..)`. Only the first one can be a callback
-- without a name.
abbrev pub error_argument_report : Bool → Piece → ErrorView → Report ErrorView
error_argument_report first (unexpected run) e = with_faults e (only (unexpected_token run))
error_argument_report first (unnamed run) e = map_report (error_with e) (unnamed_callback first run e.callback)
error_argument_report first (named name value) e = error_named_report name value e

-- The report of all arguments after the type.
abbrev pub error_arguments_report : Bool → List Piece → ErrorView → Report ErrorView
error_arguments_report first [] e = without_faults e
error_arguments_report first (piece ∷ rest) e = and_then (error_argument_report first piece e) (error_arguments_report false rest)
