-- The tokens that are appended to a line, where several texts are allowed.
use Rattle.std.specs.Prelude.{◌≡◌, ℕ, List, Option, IfSome, codes}
use Rattle.std.specs.List.{flat_map}
use Rattle.json.specs.Token.{Token}
use Rattle.logos_json.specs.Lines.{Gains, LinesValue}
use Rattle.logos_json.specs.Members.{list_member}
use Rattle.logos_lexeme.specs.declared.lexeme.Span.{Span}
use Rattle.logos_lines.specs.declared.location.Location.{Location}
use Rattle.logos_report.specs.Locations.{SourceValue}
use Rattle.logos_messages.specs.Shown.{AreLinesAt, AreLinesOf, Marked, Note, Shown}
use Rattle.logos_messages.specs.Tokens.{diagnostic_tokens, marked_tokens, note_tokens, other_tokens, span_tokens, spans_tokens}

-- Lines of a span were appended.
pub record YieldsLines (text : List ℕ) (first last : Location) (old new : LinesValue) : Type 0 where
  pub lines : List Marked
  pub are : AreLinesOf text first last lines
  pub gained : Gains (flat_map marked_tokens lines) old new

-- Lines of a span were appended, as a member.
pub record YieldsLineList (text : List ℕ) (first last : Location) (old new : LinesValue) : Type 0 where
  pub lines : List Marked
  pub are : AreLinesOf text first last lines
  pub gained : Gains (list_member (codes "text") (flat_map marked_tokens lines)) old new

-- Notes were appended.
pub record YieldsNotes (old new : LinesValue) : Type 0 where
  pub notes : List Note
  pub gained : Gains (flat_map note_tokens notes) old new

-- Notes were appended, as a member.
pub record YieldsNoteList (old new : LinesValue) : Type 0 where
  pub notes : List Note
  pub gained : Gains (list_member (codes "children") (flat_map note_tokens notes)) old new

-- A span was appended, with lines of it.
pub record YieldsSpan (source : SourceValue) (begin : ℕ) (span : Span) (label : Option (List ℕ)) (old new : LinesValue) : Type 0 where
  pub lines : List Marked
  pub are : AreLinesAt source begin span lines
  pub gained : Gains (span_tokens source begin span label lines) old new

-- The second span of a fault was appended, if it has one.
pub record YieldsOther (source : SourceValue) (begin : ℕ) (also : Option Span) (old new : LinesValue) : Type 0 where
  pub lines : List Marked
  pub are : IfSome also (λ span. AreLinesAt source begin span lines)
  pub gained : Gains (other_tokens source begin also lines) old new

-- The spans of a fault or a warning were appended, as a member.
pub record YieldsSpanList (source : SourceValue) (begin : ℕ) (span : Span) (also : Option Span) (old new : LinesValue) : Type 0 where
  pub lines : List Marked
  pub are : AreLinesAt source begin span lines
  pub other_lines : List Marked
  pub are_other : IfSome also (λ other. AreLinesAt source begin other other_lines)
  pub gained : Gains (spans_tokens source begin span also lines other_lines) old new

-- A diagnostic with this head and this report was appended.
pub record YieldsMessage (source : SourceValue) (begin : ℕ) (head : List Token) (span : Span) (also : Option Span) (rendered : Option (List ℕ)) (old new : LinesValue) : Type 0 where
  pub shown : Shown
  pub lines : AreLinesAt source begin span shown.lines
  pub other_lines : IfSome also (λ other. AreLinesAt source begin other shown.other_lines)
  pub is : shown.rendered ≡ rendered
  pub gained : Gains (diagnostic_tokens source begin head span also shown) old new
