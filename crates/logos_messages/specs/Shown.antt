-- The details that are shown with a fault or a warning.
use Rattle.std.specs.Prelude.{◌≡◌, ◌≤◌, ◌⊎◌, ◌==◌, ◌+◌, ◌-◌, ◌^◌, false, min, ℕ, List, [], ◌∷◌, Option, None, IfSome, if◌then◌else◌, length}
use Rattle.std.specs.Str.{chars}
use Rattle.logos_lexeme.specs.declared.lexeme.Span.{Span}
use Rattle.logos_lines.specs.Locations.{location_at}
use Rattle.logos_lines.specs.Starts.{IsLineOf, IsLongLine, IsNoLine}
use Rattle.logos_lines.specs.declared.location.Location.{Location}
use Rattle.logos_report.specs.Locations.{SourceValue, in_file}
use Rattle.logos_report.specs.Reports.{InReport}

-- A line of a file, and the columns of a span in it, with an exclusive end.
pub record Marked : Type 0 where
  pub text : List ℕ
  pub from : ℕ
  pub to : ℕ

-- A note or a help: its kind, and its text.
pub record Note : Type 0 where
  pub level : List ℕ
  pub text : List ℕ

-- The details that are shown with a fault or a warning: lines of the file at its span and at its
-- second one, notes and helps, and its report.
pub record Shown : Type 0 where
  pub lines : List Marked
  pub other_lines : List Marked
  pub notes : List Note
  pub rendered : Option (List ℕ)

-- The column at which a span with this first location begins in a line.
abbrev pub first_column : Location → ℕ → ℕ
first_column first number = if number == first.line then first.column else 1

-- The exclusive column at which a span with this last location ends in a line with a text.
abbrev pub last_column : Location → ℕ → List ℕ → ℕ
last_column last number text = if number == last.line then last.column else min (length (chars text) + 1) (2 ^ 64 - 1)

-- A line of a span with these first and last locations, and the columns of the span in the line.
pub record IsMarked (text : List ℕ) (first last : Location) (line : Marked) : Type 0 where
  pub number : ℕ
  pub is_line : IsLineOf text number line.text
  pub after : first.line ≤ number
  pub before : number ≤ last.line
  pub from : line.from ≡ first_column first number
  pub to : line.to ≡ last_column last number line.text

-- Each line is a line of the span with these first and last locations.
abbrev pub AreLinesOf : List ℕ → Location → Location → List Marked → Type 0
AreLinesOf text first last [] = Unit {0}
AreLinesOf text first last (line ∷ lines) = IsMarked text first last line × AreLinesOf text first last lines

-- Lines of a span of the part of a file that begins at an offset.
abbrev pub AreLinesAt : SourceValue → ℕ → Span → List Marked → Type 0
AreLinesAt source begin span lines = AreLinesOf source.text (location_at source.text (in_file begin span.from)) (location_at source.text (in_file begin span.to)) lines

-- The line of an offset of the part of a file is longer than 400 bytes, or there is none.
abbrev pub IsLongAt : SourceValue → ℕ → ℕ → Type 0
IsLongAt source begin offset =
    let line = (location_at source.text (in_file begin offset)).line in
    IsNoLine source.text line ⊎ IsLongLine source.text line 400

-- A span begins or ends in a long line.
abbrev pub HasLongLine : SourceValue → ℕ → Span → Type 0
HasLongLine source begin span = IsLongAt source begin span.from ⊎ IsLongAt source begin span.to

-- These details of spans are valid: the lines are lines of the spans, the report has exactly these
-- lines and asides, and without a report the first span begins or ends in a long line.
pub record IsShown (source : SourceValue) (begin : ℕ) (span : Span) (also : Option Span) (texts : List (List ℕ)) (shown : Shown) : Type 0 where
  pub lines : AreLinesAt source begin span shown.lines
  pub other_lines : IfSome also (λ other. AreLinesAt source begin other shown.other_lines)
  pub rendered : IfSome shown.rendered (InReport false texts)
  pub left_out : shown.rendered ≡ None → HasLongLine source begin span
