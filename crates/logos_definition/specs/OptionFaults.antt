-- The faults of the options of a lexer, each with its message and its span.
use Rattle.std.specs.Prelude.{ℕ, List, [], ◌∷◌, codes, Option, Some, None}
use Rattle.logos_lexeme.specs.declared.lexeme.Span.{Span}
use Rattle.logos_token.specs.declared.error.fault_code.FaultCode.{FaultCode}
use Rattle.logos_token.specs.declared.error.fault_code.FaultCode.TheVariants.{InvalidNested, UnknownLogos, CrateForm, ErrorTwice, ErrorForm, ErrorEmpty, ExtrasTwice, ExtrasForm, ExportTwice, ExportBytes, ExportForm, SkipForm, SkipGroup, SourceOld, SubpatternForm, Utf8Twice, Utf8Value, Utf8Form, TypeForm, Previous}
use Rattle.logos_token.specs.Faults.{Fault}
use Rattle.logos_token.specs.Tokens.{TokenList, run_span}
use Rattle.logos_attribute.specs.Slices.{Slice}
use Rattle.logos_attribute.specs.Reports.{fault, fault_about}

-- The faults of a second value at `here`, where the former one is at `there`.
abbrev pub once_only : FaultCode → List ℕ → (here there : Span) → List Fault
once_only code message here there = fault code message here ∷ fault Previous (codes "Previous definition here") there ∷ []

-- The faults of a second value, if there is a former one.
abbrev pub once_again : FaultCode → List ℕ → (here : Span) → (former : Option Span) → List Fault
once_again code message here None = []
once_again code message here (Some there) = once_only code message here there

abbrev pub utf8_twice : Span → Option Span → List Fault
utf8_twice here former = once_again Utf8Twice (codes "Utf8 mode can be defined only once") here former

abbrev pub extras_twice : Span → Option Span → List Fault
extras_twice here former = once_again ExtrasTwice (codes "Extras can be defined only once") here former

abbrev pub error_twice : Span → Option Span → List Fault
error_twice here former = once_again ErrorTwice (codes "Error type can be defined only once") here former

abbrev pub export_twice : Span → Option Span → List Fault
export_twice here former = once_again ExportTwice (codes "Export path can be defined only once") here former

abbrev pub skip_form : Slice → Fault
skip_form name = fault SkipForm (codes "Expected: #[logos(skip \"regex literal\")] or #[logos(skip(...))]") name.span

abbrev pub skip_group : TokenList → Fault
skip_group run = fault SkipGroup (codes "Expected #[logos(skip(\"regex literal\"[, [callback = ] callback, priority = priority]))]") (run_span run)

abbrev pub utf8_value : TokenList → Fault
utf8_value run = fault Utf8Value (codes "Expected a boolean literal: expected boolean literal") (run_span run)

abbrev pub utf8_form : Slice → Fault
utf8_form name = fault Utf8Form (codes "Expected: #[logos(utf8 = true)]") name.span

abbrev pub extras_form : Slice → Fault
extras_form name = fault ExtrasForm (codes "Expected: #[logos(extras = SomeType)]") name.span

abbrev pub crate_form : Slice → Fault
crate_form name = fault CrateForm (codes "Expected: #[logos(crate = path::to::logos)]") name.span

abbrev pub export_bytes : TokenList → Fault
export_bytes run = fault ExportBytes (codes "Expected a &str") (run_span run)

abbrev pub export_form : Slice → Fault
export_form name = fault ExportForm (codes "Expected #[logos(export_dir = \"path/to/export/dir\")]") name.span

abbrev pub subpattern_form : Slice → Fault
subpattern_form name = fault SubpatternForm (codes "Expected: #[logos(subpattern name = r\"regex\")]") name.span

abbrev pub error_form : Slice → Fault
error_form name = fault ErrorForm (codes "Expected: #[logos(error = SomeType)] or #[logos(error(SomeType[, callback))]") name.span

abbrev pub error_empty : TokenList → Fault
error_empty run = fault ErrorEmpty (codes "Expected #[logos(error(SomeType))]") (run_span run)

abbrev pub source_old : Slice → Fault
source_old name = fault SourceOld (codes "The `source` attribute is deprecated. Use the `utf8` attribute instead") name.span

abbrev pub unknown_logos : Slice → Fault
unknown_logos name = fault_about UnknownLogos (codes "Unknown nested attribute #[logos(") name (codes ")]")

abbrev pub invalid_nested : TokenList → Fault
invalid_nested run = fault InvalidNested (codes "Invalid nested attribute") (run_span run)

abbrev pub type_form : Slice → Fault
type_form name = fault TypeForm (codes "Expected: #[logos(type T = SomeType)]") name.span
