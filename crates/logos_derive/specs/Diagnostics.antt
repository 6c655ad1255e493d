-- Diagnostics of the faults of a source.
use Rattle.std.specs.Prelude.{◌≡◌, ℕ, ◌&&◌, ◌||◌, ◌==◌, nat_lt, Bool, List, [], ◌∷◌, ◌++◌, All, Option, Some, None, if◌then◌else◌, length, map, string_bytes}
use Rattle.logos_derive.specs.declared.diagnostic.Diagnostic.{Diagnostic}
use Rattle.logos_derive.specs.declared.diagnostic.Level.{Level}
use Rattle.logos_derive.specs.declared.diagnostic.Level.TheVariants.{Error, Warning}
use Rattle.logos_lexeme.specs.declared.lexeme.Span.{Span}
use Rattle.logos_report.specs.Faults.{first_line, seen_of}
use Rattle.logos_report.specs.Sets.{NextValue, begins_error, first_faults, next_after}
use Rattle.logos_token.specs.Faults.{Fault}
use Rattle.logos_token.specs.declared.error.fault_code.FaultCode.{FaultCode}

-- The summary of a diagnostic: its level, its code, its first line and its span.
pub record Summary : Type 0 where
  pub level : Level
  pub code : Option FaultCode
  pub message : List ℕ
  pub span : Span

abbrev pub summary_of : Diagnostic → Summary
summary_of diagnostic = record { level = diagnostic.level; code = diagnostic.code; message = string_bytes diagnostic.message; span = diagnostic.span }

-- The summary of the error of a fault: its code, the first line of its message, and its span.
abbrev pub error_summary : Fault → Summary
error_summary fault = record { level = Error; code = Some fault.code; message = first_line fault.message; span = fault.span }

-- Whether a fault has its own error, given the faults before it. The first fault has one. Another
-- fault has one if a report of an error begins with it, and fewer than 50 faults before it have its
-- code.
abbrev pub has_error : List Fault → NextValue → Fault → Bool
has_error front next fault = length front == 0 || (begins_error next fault && nat_lt (seen_of fault.code front) 50)

-- The summary of the error of a fault, if it has one.
abbrev pub errors_at : List Fault → NextValue → Fault → List Summary
errors_at front next fault = if has_error front next fault then error_summary fault ∷ [] else []

-- The summaries of the errors of faults that follow others, in order.
abbrev pub errors_after : List Fault → NextValue → List Fault → List Summary
errors_after front next [] = []
errors_after front next (fault ∷ faults) = errors_at front next fault ++ errors_after (front ++ fault ∷ []) (next_after next fault) faults

-- The summaries of the errors of all faults of a source, in order. The sets of ambiguous leaves
-- have these sizes, in order, and each set has one error.
abbrev pub error_summaries : List ℕ → List Fault → List Summary
error_summaries sizes faults = errors_after [] (first_faults sizes) faults

-- A diagnostic is a warning.
pub record IsWarning (diagnostic : Diagnostic) : Type 0 where
  pub level : diagnostic.level ≡ Warning
  pub code : diagnostic.code ≡ None

-- Diagnostics are the errors of faults, in order, and then warnings.
pub record HasErrors (sizes : List ℕ) (faults : List Fault) (diagnostics : List Diagnostic) : Type 0 where
  pub errors : List Diagnostic
  pub warnings : List Diagnostic
  pub are : diagnostics ≡ errors ++ warnings
  pub summaries : map summary_of errors ≡ error_summaries sizes faults
  pub warns : All IsWarning warnings
