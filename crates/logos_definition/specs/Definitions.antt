-- Definitions: the literal of a `token`, `regex` or `skip(..)`, and the arguments after it.
use Rattle.std.specs.Prelude.{ℕ, Bool, true, false, List, [], ◌∷◌, codes, Option, Some, None, if◌then◌else◌}
use Rattle.std.specs.Str.{bytes_eq}
use Rattle.logos_token.specs.Faults.{Fault}
use Rattle.logos_token.specs.declared.error.fault_code.FaultCode.TheVariants.{PriorityValue, PriorityTwice, PriorityForm, GreedyValue, GreedyTwice, GreedyForm, CallbackForm, IgnoreForm, UnknownNested, UnexpectedToken, NamedExpected}
use Rattle.logos_token.specs.Tokens.{TokenList, run_span}
use Rattle.logos_attribute.specs.Slices.{Slice}
use Rattle.logos_attribute.specs.Pieces.{PieceValue, assigned, grouped, Piece, unnamed, named, unexpected, pieces, up_to_comma, after_comma}
use Rattle.logos_attribute.specs.Reports.{Report, with_faults, without_faults, and_then, map_report, fault, fault_about, only}
use Rattle.logos_attribute.specs.Callbacks.{CallbackView, callback_report, callback_set}
use Rattle.logos_attribute.specs.Flags.{flags_report}
use Rattle.logos_attribute.specs.Values.{number_in, boolean_in}
use Rattle.logos_attribute.specs.Literals.{LiteralView, literal_report}

-- A definition as a value.
pub record DefinitionView : Type 0 where
  pub literal : LiteralView
  pub priority : Option ℕ
  pub callback : Option CallbackView
  pub allow_greedy : Option Bool
  pub ignore_case : Bool

-- The definition with this literal and no arguments.
abbrev pub plain : LiteralView → DefinitionView
plain literal = record { literal = literal; priority = None; callback = None; allow_greedy = None; ignore_case = false }

-- The fault of a second value, if there is a former one.
abbrev pub again : {A : Type 0} → Option A → Fault → List Fault
again None f = []
again (Some former) f = only f

abbrev pub priority_value : TokenList → Fault
priority_value run = fault PriorityValue (codes "Expected an unsigned integer") (run_span run)

abbrev pub priority_twice : TokenList → Fault
priority_twice run = fault PriorityTwice (codes "Resetting previously set priority") (run_span run)

abbrev pub priority_form : Slice → Fault
priority_form name = fault PriorityForm (codes "Expected: priority = <integer>") name.span

abbrev pub greedy_value : TokenList → Fault
greedy_value run = fault GreedyValue (codes "Expected `true` or `false`") (run_span run)

abbrev pub greedy_twice : TokenList → Fault
greedy_twice run = fault GreedyTwice (codes "Resetting previously set allow_greedy") (run_span run)

abbrev pub greedy_form : Slice → Fault
greedy_form name = fault GreedyForm (codes "Expected: allow_greedy = ...") name.span

abbrev pub callback_form : Slice → Fault
callback_form name = fault CallbackForm (codes "Expected: callback = ...") name.span

abbrev pub ignore_form : Slice → Fault
ignore_form name = fault IgnoreForm (codes "Expected: ignore(<flag>, ...)") name.span

abbrev pub unknown_nested : Slice → Fault
unknown_nested name = fault_about UnknownNested (codes "Unknown nested attribute: ") name (codes "\n\nExpected one of: priority, callback")

abbrev pub named_expected : TokenList → Fault
named_expected run = fault NamedExpected (codes "Expected a named argument at this position\n\nhint: If you are trying to define a callback here use: callback = ...") (run_span run)

abbrev pub unexpected_token : TokenList → Fault
unexpected_token run = fault UnexpectedToken (codes "Unexpected token in attribute") (run_span run)

-- The report of `priority = run` after a former priority, which it replaces.
abbrev pub priority_set : TokenList → Option ℕ → Report (Option ℕ)
priority_set run former = elim (number_in run) [
  | Some priority ↦ with_faults (Some priority) (again former (priority_twice run))
  | None ↦ with_faults former (only (priority_value run))
]

-- The report of `allow_greedy = run` after a former value, which it replaces.
abbrev pub greedy_set : TokenList → Option Bool → Report (Option Bool)
greedy_set run former = elim (boolean_in run) [
  | Some allow ↦ with_faults (Some allow) (again former (greedy_twice run))
  | None ↦ with_faults former (only (greedy_value run))
]

-- The report of the argument `priority`.
abbrev pub priority_report : Slice → PieceValue → DefinitionView → Report DefinitionView
priority_report name (assigned run) d = map_report (λ priority. record d { priority = priority }) (priority_set run d.priority)
priority_report name value d = with_faults d (only (priority_form name))

-- The report of the argument `callback`, which replaces a former callback.
abbrev pub named_callback : Slice → PieceValue → Option CallbackView → Report (Option CallbackView)
named_callback name (assigned run) former = callback_set name run former
named_callback name value former = with_faults former (only (callback_form name))

-- The report of an argument without a name. Only the first argument can be a callback.
abbrev pub unnamed_callback : Bool → TokenList → Option CallbackView → Report (Option CallbackView)
unnamed_callback true run former = callback_report run
unnamed_callback false run former = with_faults former (only (named_expected run))

-- The definition with this callback.
abbrev pub with_callback : DefinitionView → Option CallbackView → DefinitionView
with_callback d callback = record d { callback = callback }

-- The report of the argument `ignore`.
abbrev pub ignore_report : Slice → PieceValue → DefinitionView → Report DefinitionView
ignore_report name (grouped run) d = map_report (λ ignore_case. record d { ignore_case = ignore_case }) (flags_report name false d.ignore_case run)
ignore_report name value d = with_faults d (only (ignore_form name))

-- The report of the argument `allow_greedy`.
abbrev pub greedy_report : Slice → PieceValue → DefinitionView → Report DefinitionView
greedy_report name (assigned run) d = map_report (λ allow. record d { allow_greedy = allow }) (greedy_set run d.allow_greedy)
greedy_report name value d = with_faults d (only (greedy_form name))

-- The report of a named argument.
abbrev pub named_report : Slice → PieceValue → DefinitionView → Report DefinitionView
named_report name value d =
    if bytes_eq name.text (codes "priority") then priority_report name value d
    else (if bytes_eq name.text (codes "callback") then map_report (with_callback d) (named_callback name value d.callback)
    else (if bytes_eq name.text (codes "ignore") then ignore_report name value d
    else (if bytes_eq name.text (codes "allow_greedy") then greedy_report name value d
    else with_faults d (only (unknown_nested name)))))

-- The report of an argument after the literal. Only the first one can be a callback without a name.
abbrev pub argument_report : Bool → Piece → DefinitionView → Report DefinitionView
argument_report first (unexpected run) d = with_faults d (only (unexpected_token run))
argument_report first (unnamed run) d = map_report (with_callback d) (unnamed_callback first run d.callback)
argument_report first (named name value) d = named_report name value d

-- The report of all arguments after the literal.
abbrev pub arguments_report : Bool → List Piece → DefinitionView → Report DefinitionView
arguments_report first [] d = without_faults d
arguments_report first (piece ∷ rest) d = and_then (argument_report first piece d) (arguments_report false rest)

-- The report of the arguments after a literal, if there is one.
abbrev pub definition_after : TokenList → Option LiteralView → Report (Option DefinitionView)
definition_after rest None = without_faults None
definition_after rest (Some literal) = map_report (λ d. Some d) (arguments_report true (pieces rest) (plain literal))

-- The report of the tokens in the parentheses of `token`, `regex` or `skip`.
abbrev pub definition_report : TokenList → Report (Option DefinitionView)
definition_report run = and_then (literal_report (up_to_comma run)) (definition_after (after_comma run))
