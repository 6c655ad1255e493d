-- Callbacks as views of tokens.
use Rattle.std.specs.Prelude.{Result, Ok, Err}
use Rattle.logos_lexeme.specs.declared.lexeme.Span.{Span}
use Rattle.logos_token.specs.Faults.{Fault}
use Rattle.logos_token.specs.Views.{tokens_of}
use Rattle.logos_attribute.specs.declared.callback.CallbackRun.{CallbackRun}
use Rattle.logos_attribute.specs.declared.callback.CallbackRun.TheVariants.{Label, Inline}
use Rattle.logos_attribute.specs.declared.callback.CallbackFault.{CallbackFault}
use Rattle.logos_attribute.specs.declared.callback.CallbackFault.TheVariants.{Closure, Body}
use Rattle.logos_attribute.specs.Slices.{ident_slice}
use Rattle.logos_attribute.specs.Callbacks.{CallbackView, label, inline, callback_closure, callback_body}

-- The callback that the views represent. `span` is its span.
abbrev pub run_view : Span → CallbackRun → CallbackView
run_view span (Label run) = label (tokens_of run)
run_view span (Inline arg body) = inline (ident_slice arg) (tokens_of body) span

-- The fault of a run that is not a callback.
abbrev pub callback_fault : Span → CallbackFault → Fault
callback_fault span Closure = callback_closure span
callback_fault span Body = callback_body span

-- The result of reading a callback.
abbrev pub read_view : Span → Result CallbackRun CallbackFault → Result CallbackView Fault
read_view span (Ok run) = Ok (run_view span run)
read_view span (Err cause) = Err (callback_fault span cause)
