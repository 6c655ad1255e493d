-- The content of a line that is appended to step by step.
use Rattle.std.proofs.Common.{◌≡◌, ◌≤◌, ℕ, List, [], ◌∷◌, ◌++◌, sym, subst}
use Rattle.std.proofs.lemmas.List.{append-nil}
use Rattle.std.proofs.lemmas.Grind.{flat_map-append}
use Rattle.std.specs.List.{flat_map}
use Rattle.json.specs.Token.{Token, begin_array, end_array, key}
use Rattle.logos_json.proofs.LineLemmas.{gains_nothing, gains_then}
use Rattle.logos_json.specs.Lines.{Gains, LinesValue}
use Rattle.logos_json.specs.Members.{list_member}
use Rattle.logos_lines.specs.Starts.{IsLineOf}
use Rattle.logos_lines.specs.declared.location.Location.{Location}
use Rattle.logos_messages.specs.Growing.{YieldsLines, YieldsNotes}
use Rattle.logos_messages.specs.Shown.{AreLinesOf, IsMarked, Marked, Note, first_column, last_column}
use Rattle.logos_messages.specs.Tokens.{marked_tokens, note_tokens}

-- One item, as a list of items.
pub one_item : {A : Type 0} (tokens : A → List Token) (item : A) {old new : LinesValue} → Gains (tokens item) old new → Gains (flat_map tokens (item ∷ [])) old new
one_item tokens item {old} {new} g = subst (λ x. Gains x old new) (sym (append-nil (tokens item))) g

-- Some items, and then others.
pub items_then : {A : Type 0} (tokens : A → List Token) (items others : List A) {old middle new : LinesValue} → Gains (flat_map tokens items) old middle → Gains (flat_map tokens others) middle new →
    Gains (flat_map tokens (items ++ others)) old new
items_then tokens items others {old} {middle} {new} a b = subst (λ x. Gains x old new) (sym (flat_map-append tokens items others)) (gains_then a b)

lines_both : (text : List ℕ) (first last : Location) (lines others : List Marked) → AreLinesOf text first last lines → AreLinesOf text first last others → AreLinesOf text first last (lines ++ others)
lines_both text first last [] others a b = b
lines_both text first last (line ∷ lines) others a b = (a.0, lines_both text first last lines others a.1 b)

-- No lines, and lines after lines.
pub no_lines : (text : List ℕ) (first last : Location) (line : LinesValue) → YieldsLines text first last line line
no_lines text first last line = record { lines = []; are = tt; gained = gains_nothing line }

pub lines_then : {text : List ℕ} {first last : Location} {old middle new : LinesValue} → YieldsLines text first last old middle → YieldsLines text first last middle new → YieldsLines text first last old new
lines_then {text} {first} {last} {old} {middle} {new} a b = record {
  lines = a.lines ++ b.lines;
  are = lines_both text first last a.lines b.lines a.are b.are;
  gained = items_then marked_tokens a.lines b.lines a.gained b.gained;
}

-- One line.
pub one_line : {text shown : List ℕ} (first last : Location) (number from to : ℕ) {old new : LinesValue} → IsLineOf text number shown → first.line ≤ number → number ≤ last.line → from ≡ first_column first number →
    to ≡ last_column last number shown → Gains (marked_tokens (record { text = shown; from = from; to = to })) old new → YieldsLines text first last old new
one_line {text} {shown} first last number from to is after before begins ends g =
    let line : Marked = record { text = shown; from = from; to = to } in
    let marked : IsMarked text first last line = record { number = number; is_line = is; after = after; before = before; from = begins; to = ends } in
    record { lines = line ∷ []; are = (marked, tt); gained = one_item marked_tokens line g }

-- No notes, one note, and notes after notes.
pub no_notes : (line : LinesValue) → YieldsNotes line line
no_notes line = record { notes = []; gained = gains_nothing line }

pub one_note : {level text : List ℕ} {old new : LinesValue} → Gains (note_tokens (record { level = level; text = text })) old new → YieldsNotes old new
one_note {level} {text} g =
    let note : Note = record { level = level; text = text } in
    record { notes = note ∷ []; gained = one_item note_tokens note g }

pub notes_then : {old middle new : LinesValue} → YieldsNotes old middle → YieldsNotes middle new → YieldsNotes old new
notes_then {old} {middle} {new} a b = record { notes = a.notes ++ b.notes; gained = items_then note_tokens a.notes b.notes a.gained b.gained }

-- A list of two runs.
pub listed : {name : List ℕ} {one other : List Token} {old begun middle more new : LinesValue} → Gains (key name ∷ begin_array ∷ []) old begun → Gains one begun middle → Gains other middle more →
    Gains (end_array ∷ []) more new → Gains (list_member name (one ++ other)) old new
listed a b c d = gains_then a (gains_then (gains_then b c) d)
