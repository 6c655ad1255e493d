-- The tokens of faults and warnings, in rustc's schema of diagnostics.
use Rattle.std.specs.Prelude.{ℕ, List, [], ◌∷◌, ◌++◌, true, false, Option, Some, None, if◌then◌else◌, codes, decimal, string_bytes}
use Rattle.std.specs.List.{flat_map}
use Rattle.json.specs.Token.{Token, begin_object, end_object, key}
use Rattle.logos_json.specs.Members.{bool_member, list_member, maybe_text, null_member, number_member, text_member}
use Rattle.logos_lexeme.specs.declared.lexeme.Span.{Span}
use Rattle.logos_lines.specs.declared.location.Location.{Location}
use Rattle.logos_lines.specs.Locations.{location_at}
use Rattle.logos_report.specs.Codes.{is_error}
use Rattle.logos_report.specs.Faults.{first_line}
use Rattle.logos_report.specs.Locations.{SourceValue, in_file}
use Rattle.logos_report.specs.declared.warnings.Warning.{Warning}
use Rattle.logos_token.specs.FaultNames.{name_of}
use Rattle.logos_token.specs.Faults.{Fault}
use Rattle.logos_token.specs.declared.error.fault_code.FaultCode.{FaultCode}
use Rattle.logos_messages.specs.Shown.{Marked, Note, Shown}

-- A line of a file with the columns of a span in it.
abbrev pub marked_tokens : Marked → List Token
marked_tokens line =
    begin_object ∷ (text_member (codes "text") line.text ++ (number_member (codes "highlight_start") line.from ++ (number_member (codes "highlight_end") line.to ++ end_object ∷ [])))

-- The file of a span, and its bytes.
abbrev pub bytes_tokens : SourceValue → ℕ → Span → List Token
bytes_tokens source begin span =
    text_member (codes "file_name") source.path ++ (number_member (codes "byte_start") (in_file begin span.from) ++ number_member (codes "byte_end") (in_file begin span.to))

-- The lines and the columns of two locations.
abbrev pub locations_tokens : Location → Location → List Token
locations_tokens first last =
    number_member (codes "line_start") first.line ++ (number_member (codes "line_end") last.line ++ (number_member (codes "column_start") first.column ++ number_member (codes "column_end") last.column))

-- Whether a span is the primary one of the fault, and its label.
abbrev pub label_tokens : Option (List ℕ) → List Token
label_tokens (Some label) = bool_member (codes "is_primary") false ++ text_member (codes "label") label
label_tokens None = bool_member (codes "is_primary") true ++ null_member (codes "label")

-- A span: its file, its bytes, its lines and columns, its label, and lines of the file.
abbrev pub span_tokens : SourceValue → ℕ → Span → Option (List ℕ) → List Marked → List Token
span_tokens source begin span label lines =
    let first = location_at source.text (in_file begin span.from) in
    let last = location_at source.text (in_file begin span.to) in
    begin_object ∷ (bytes_tokens source begin span ++ (locations_tokens first last ++ (label_tokens label ++ (list_member (codes "text") (flat_map marked_tokens lines) ++ end_object ∷ []))))

-- The second span of a fault, if it has one.
abbrev pub other_tokens : SourceValue → ℕ → Option Span → List Marked → List Token
other_tokens source begin (Some span) lines = span_tokens source begin span (Some (codes "see also")) lines
other_tokens source begin None lines = []

-- The empty members of a note: its spans, notes and report.
abbrev pub nothing_tokens : List Token
nothing_tokens = list_member (codes "spans") [] ++ (list_member (codes "children") [] ++ null_member (codes "rendered"))

-- A note or a help.
abbrev pub note_tokens : Note → List Token
note_tokens note =
    begin_object ∷ (text_member (codes "message") note.text ++ (null_member (codes "code") ++ (text_member (codes "level") note.level ++ (nothing_tokens ++ end_object ∷ []))))

-- The code of a fault that is an error.
abbrev pub error_tokens : FaultCode → List Token
error_tokens code = key (codes "code") ∷ begin_object ∷ (text_member (codes "code") (name_of code) ++ (null_member (codes "explanation") ++ end_object ∷ []))

-- The code of a fault, as a member. An earlier definition, to which a fault refers, has none.
abbrev pub code_member : FaultCode → List Token
code_member code = if is_error code then error_tokens code else null_member (codes "code")

-- The level of a fault. The level of an earlier definition is `note`.
abbrev pub level_of : FaultCode → List ℕ
level_of code = if is_error code then codes "error" else codes "note"

-- The marker of a diagnostic, and its message.
abbrev pub message_tokens : List ℕ → List Token
message_tokens message = text_member (codes "$message_type") (codes "diagnostic") ++ text_member (codes "message") message

-- The beginning of a line: the marker of a diagnostic, its message, its code and its level.
abbrev pub head_tokens : List ℕ → List Token → List ℕ → List Token
head_tokens message code level = message_tokens message ++ (code ++ text_member (codes "level") level)

-- The beginning of the line of a fault, and of a warning with this message.
abbrev pub fault_head : Fault → List Token
fault_head fault = head_tokens (first_line fault.message) (code_member fault.code) (level_of fault.code)

abbrev pub warning_head : List ℕ → List Token
warning_head message = head_tokens message (null_member (codes "code")) (codes "warning")

-- The spans of a fault or a warning: the primary one, and the second one, if it has one.
abbrev pub spans_tokens : SourceValue → ℕ → Span → Option Span → List Marked → List Marked → List Token
spans_tokens source begin span also lines other_lines =
    list_member (codes "spans") (span_tokens source begin span None lines ++ other_tokens source begin also other_lines)

-- A diagnostic with this head, its primary span, perhaps a second one, and its details.
abbrev pub diagnostic_tokens : SourceValue → ℕ → List Token → Span → Option Span → Shown → List Token
diagnostic_tokens source begin head span also shown =
    begin_object ∷ (head ++ (spans_tokens source begin span also shown.lines shown.other_lines ++
    (list_member (codes "children") (flat_map note_tokens shown.notes) ++ (maybe_text (codes "rendered") shown.rendered ++ end_object ∷ []))))

-- The diagnostic of a fault, and that of a warning, with its details.
abbrev pub fault_tokens : SourceValue → ℕ → Fault → Shown → List Token
fault_tokens source begin fault shown = diagnostic_tokens source begin (fault_head fault) fault.span fault.also shown

abbrev pub warning_tokens : SourceValue → ℕ → Warning → Shown → List Token
warning_tokens source begin warning shown = diagnostic_tokens source begin (warning_head (string_bytes warning.message)) warning.span warning.also shown

-- The line for left-out faults of a code, with this message and this report.
abbrev pub left_out_tokens : List ℕ → FaultCode → List ℕ → List Token
left_out_tokens message code rendered =
    begin_object ∷ (head_tokens message (code_member code) (codes "failure-note") ++
    (list_member (codes "spans") [] ++ (list_member (codes "children") [] ++ (text_member (codes "rendered") rendered ++ end_object ∷ []))))

-- The line for left-out faults of a code, with the message that has their number.
abbrev pub rest_tokens : FaultCode → ℕ → List ℕ → List Token
rest_tokens code count rendered = left_out_tokens (decimal count ++ codes " more are not shown") code rendered
