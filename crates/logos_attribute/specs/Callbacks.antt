-- Callbacks in the arguments of attributes.
use Rattle.std.specs.Prelude.{ℕ, List, [], ◌∷◌, codes, Option, Some, None, Result, Ok, Err, if◌then◌else◌}
use Rattle.logos_lexeme.specs.declared.lexeme.Span.{Span}
use Rattle.logos_token.specs.Faults.{Fault}
use Rattle.logos_token.specs.declared.error.fault_code.FaultCode.TheVariants.{CallbackClosure, CallbackBody, CallbackValue, CallbackTwice, Previous}
use Rattle.logos_token.specs.Tokens.{TokenList, identifier, group, none, also, run_span}
use Rattle.logos_token.specs.Punctuation.{is_alone}
use Rattle.logos_attribute.specs.Slices.{Slice}
use Rattle.logos_attribute.specs.Reports.{Report, with_faults, without_faults, fault, fault_also, only}

-- The character `|`.
abbrev pub bar : ℕ
bar = 124

-- The tokens that name a function; or the parameter and the body of a closure, and the span of the
-- whole closure.
pub data CallbackView : Type 0 where
  label : (tokens : TokenList) → CallbackView
  inline : (arg : Slice) (body : TokenList) (span : Span) → CallbackView

-- The span of a callback.
abbrev pub view_span : CallbackView → Span
view_span (label tokens) = run_span tokens
view_span (inline arg body span) = span

abbrev pub callback_closure : Span → Fault
callback_closure span = fault CallbackClosure (codes "Inline callbacks must use closure syntax with exactly one parameter") span

abbrev pub callback_body : Span → Fault
callback_body span = fault CallbackBody (codes "Callback missing a body") span

-- The closure after the second `|`: its body. If the body is a group, it is the tokens inside it.
abbrev pub body_in : Span → Slice → TokenList → Result CallbackView Fault
body_in span arg none = Err (callback_body span)
body_in span arg (also (group delimiter at inside) rest) = Ok (inline arg inside span)
body_in span arg run = Ok (inline arg run span)

-- The closure after its parameter: a lone `|`, then the body.
abbrev pub bar_in : Span → Slice → TokenList → Result CallbackView Fault
bar_in span arg none = Err (callback_body span)
bar_in span arg (also token rest) = if is_alone bar token then body_in span arg rest else Err (callback_closure span)

-- The closure after the first `|`: its parameter, then the second `|`.
abbrev pub parameter_in : Span → TokenList → Result CallbackView Fault
parameter_in span (also (identifier text at) rest) = bar_in span (record { text = text; span = at }) rest
parameter_in span run = Err (callback_closure span)

-- A callback: a closure begins with a lone `|`, and any other run names a function.
abbrev pub callback_in : TokenList → Result CallbackView Fault
callback_in none = Err (callback_closure (run_span none))
callback_in (also first rest) =
    if is_alone bar first then parameter_in (run_span (also first rest)) rest
    else Ok (label (also first rest))

-- The report of a callback without a name before it: the callback, or its fault.
abbrev pub callback_report : TokenList → Report (Option CallbackView)
callback_report run = elim (callback_in run) [ Ok callback ↦ without_faults (Some callback) | Err cause ↦ with_faults None (only cause) ]

abbrev pub callback_twice : Slice → (here : Span) → Fault
callback_twice name here = fault_also CallbackTwice (codes "Callback has been already set") here name.span

abbrev pub previous_callback : Span → Fault
previous_callback there = fault Previous (codes "Previous callback set here") there

abbrev pub callback_no_value : Span → Fault
callback_no_value span = fault CallbackValue (codes "Not a valid callback") span

abbrev pub callback_value_fault : TokenList → Fault
callback_value_fault run = callback_no_value (run_span run)

-- The faults of a second `callback = ..`. Its value is at `here`, and the former callback at
-- `there`.
abbrev pub twice_at : Slice → (here there : Span) → List Fault
twice_at name here there = callback_twice name here ∷ previous_callback there ∷ []

-- The faults of `callback = run` after a former callback, if there is one.
abbrev pub callback_again : Slice → TokenList → Option CallbackView → List Fault
callback_again name run None = []
callback_again name run (Some former) = twice_at name (run_span run) (view_span former)

-- The report of `callback = run` after a former callback: the new callback replaces it.
abbrev pub callback_set : Slice → TokenList → Option CallbackView → Report (Option CallbackView)
callback_set name run former = elim (callback_in run) [
  | Ok callback ↦ with_faults (Some callback) (callback_again name run former)
  | Err cause ↦ with_faults former (cause ∷ callback_value_fault run ∷ [])
]
