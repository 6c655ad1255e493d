-- Strings and byte strings in an attribute's argument.
use Rattle.std.specs.Prelude.{codes, Option, Some, None}
use Rattle.logos_token.specs.Faults.{Fault}
use Rattle.logos_token.specs.declared.error.fault_code.FaultCode.TheVariants.{LiteralSyntax, NotText}
use Rattle.logos_token.specs.Tokens.{TokenList, literal, none, also, run_span}
use Rattle.logos_token.specs.Held.{Held, held}
use Rattle.logos_attribute.specs.Slices.{Slice}
use Rattle.logos_attribute.specs.Reports.{Report, with_faults, without_faults, fault, only}

-- The value of a string or byte string.
pub record LiteralView : Type 0 where
  pub token : Slice
  pub held : Held

-- A literal with a name, as in the definition of a subpattern.
pub record NamedLiteral : Type 0 where
  pub name : Slice
  pub literal : LiteralView

-- The fault of a run that is not a literal.
abbrev pub literal_syntax : TokenList → Fault
literal_syntax run = fault LiteralSyntax (codes "expected a literal") (run_span run)

abbrev pub not_text : Slice → Fault
not_text token = fault NotText (codes "Expected a &str or &[u8] slice") token.span

-- A literal token with this value.
abbrev pub text_by : Slice → Option Held → Option LiteralView
text_by token (Some held) = Some (record { token = token; held = held })
text_by token None = None

-- The string or byte string of a literal token.
abbrev pub text_in : Slice → Option LiteralView
text_in token = text_by token (held token.text)

-- The report of a literal token with this value, or of the fault that it has none.
abbrev pub text_or_fault : Slice → Option LiteralView → Report (Option LiteralView)
text_or_fault token (Some view) = without_faults (Some view)
text_or_fault token None = with_faults None (only (not_text token))

-- The report of a literal token that must be a string or byte string.
abbrev pub text_report : Slice → Report (Option LiteralView)
text_report token = text_or_fault token (text_in token)

-- The report of the first piece of a definition. A piece without tokens has no fault here.
abbrev pub literal_report : TokenList → Report (Option LiteralView)
literal_report none = without_faults None
literal_report (also (literal text span) none) = text_report (record { text = text; span = span })
literal_report run = with_faults None (only (literal_syntax run))

-- The string or byte string that a run consists of.
abbrev pub string_in : TokenList → Option LiteralView
string_in (also (literal text span) none) = text_in (record { text = text; span = span })
string_in run = None
