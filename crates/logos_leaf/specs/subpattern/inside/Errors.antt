-- Errors of reading patterns.
use Rattle.std.specs.Prelude.{◌≡◌, ℕ, List, ◌++◌}
use Rattle.logos_lexeme.specs.declared.lexeme.Span.{Span}
use Rattle.logos_token.specs.declared.error.detail.PatternDetail.{PatternDetail}
use Rattle.logos_token.specs.Faults.{Fault}
use Rattle.logos_pattern_tokens.specs.declared.error.PatternError.{PatternError}
use Rattle.logos_pattern_tokens.specs.declared.error.PatternError.TheVariants as errors
use Rattle.logos_pattern_tokens.specs.declared.error.Kind.{Kind}
use Rattle.logos_attribute.specs.Reports.{AddsFault}
use Rattle.logos_leaf.specs.subpattern.PatternFaults.{IsDetail, too_deep, pattern_faults, regex_fault}

-- The fault of a text that breaks the grammar is added, with its detail.
abbrev pub ReportsSyntax : Kind → List ℕ → Span → List Fault → List Fault → Type 0
ReportsSyntax kind text span old new = (detail : PatternDetail) × IsDetail kind text detail × AddsFault (regex_fault kind detail span) old new

-- Reporting an error of reading this text as a pattern changes the faults from `old` to `new`.
abbrev pub ReportsError : PatternError → List ℕ → Span → List Fault → List Fault → Type 0
ReportsError (errors.Syntax kind at) text span old new = ReportsSyntax kind text span old new
ReportsError errors.LimitPatternNesting text span old new = new ≡ old ++ pattern_faults span too_deep
ReportsError errors.Memory text span old new = ⊥
