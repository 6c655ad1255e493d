-- The warnings that are added for the parts of a file.
use Rattle.std.specs.Prelude.{◌≡◌, ◌++◌, ◌^◌, ◌-◌, ◌+◌, ◌||◌, ◌&&◌, not, ℕ, Bool, true, false, List, [], ◌∷◌, codes, map, min, option_map, string_bytes}
use Rattle.logos_host.specs.declared.message_format.MessageFormat.{MessageFormat}
use Rattle.logos_host.specs.declared.message_format.MessageFormat.TheVariants.{Human, Json}
use Rattle.logos_lexeme.specs.declared.lexeme.Span.{Span}
use Rattle.logos_report.specs.declared.warnings.Warning.{Warning}
use Rattle.logos_rust_file.specs.declared.finder.FoundEnum.{FoundEnum}

-- A number moved by an offset, saturating at the greatest number.
abbrev pub moved_number : ℕ → ℕ → ℕ
moved_number offset number = min (number + offset) (2 ^ 64 - 1)

-- A span of a part that begins at an offset of a file, as a span of the file.
abbrev pub moved_span : ℕ → Span → Span
moved_span offset span = record { from = moved_number offset span.from; to = moved_number offset span.to }

-- A warning of a part that begins at an offset of a file, with spans of the file.
abbrev pub moved : ℕ → Warning → Warning
moved offset warning = record {
  message = warning.message;
  span = moved_span offset warning.span;
  note = warning.note;
  help = warning.help;
  also = option_map (moved_span offset) warning.also;
}

-- Warnings of a part that begins at an offset of a file were added, with spans of the file. Before
-- they were moved they satisfied `Are`.
pub record AddsMoved (offset : ℕ) (Are : List Warning → Type 0) (old new : List Warning) : Type 0 where
  pub own : List Warning
  pub are : Are own
  pub is : new ≡ old ++ map (moved offset) own

-- Whether one of these enums derives `Logos`.
abbrev pub has_lexer : List FoundEnum → Bool
has_lexer [] = false
has_lexer (one ∷ found) = one.derives || has_lexer found

-- Whether there is a warning about a file without an enum that derives `Logos`: if warnings are
-- denied, or the format is JSON.
abbrev pub reports_missing : Bool → MessageFormat → Bool
reports_missing denies Human = denies
reports_missing denies Json = true

-- The warning is that no enum of the file derives `Logos`. Its span is the beginning of the file.
pub record IsMissing (warning : Warning) : Type 0 where
  pub message : string_bytes warning.message ≡ codes "no enum in this file derives `Logos`"
  pub span : warning.span ≡ record { from = 0; to = 0 }

-- One warning that no enum of the file derives `Logos`, or no warning.
abbrev pub AreMissing : Bool → List Warning → Type 0
AreMissing true added = (warning : Warning) × IsMissing warning × (added ≡ warning ∷ [])
AreMissing false added = added ≡ []

-- The warning that no enum of the file derives `Logos` was added, if it is requested and none does.
pub record AddsMissing (is_requested : Bool) (found : List FoundEnum) (old new : List Warning) : Type 0 where
  pub added : List Warning
  pub are : AreMissing (is_requested && not (has_lexer found)) added
  pub is : new ≡ old ++ added
