-- The text of faults in a report.
use Rattle.std.specs.Prelude.{ℕ, ◌-◌, ◌^◌, min, ◌==◌, nat_lt, Bool, List, [], ◌∷◌, ◌++◌, if◌then◌else◌, codes, decimal, map}
use Rattle.std.specs.List.{before_first, count_by}
use Rattle.std.specs.Str.{bytes_eq}
use Rattle.logos_token.specs.Faults.{Fault}
use Rattle.logos_token.specs.FaultNames.{name_of}
use Rattle.logos_report.specs.Codes.{is_error, is_explained}
use Rattle.logos_report.specs.Sets.{NextValue, first_faults, follows, next_after}
use Rattle.logos_token.specs.declared.error.fault_code.FaultCode.{FaultCode}
use Rattle.logos_page.specs.declared.page.Style.TheVariants.{Error, Frame, Strong}
use Rattle.logos_page.specs.Pages.{painted}
use Rattle.logos_report.specs.Locations.{SourceValue, location_line}
use Rattle.logos_page.specs.Shown.{shown_text}

-- A text up to its first LF.
abbrev pub first_line : List ℕ → List ℕ
first_line text = before_first (λ byte. byte == 10) text

-- The beginning of the line of a fault: the name of its code, if it is an error.
abbrev pub code_text : Bool → FaultCode → List ℕ
code_text is_colored code =
    if is_error code then painted is_colored Error (codes "error[" ++ (name_of code ++ codes "]"))
    else painted is_colored Frame (codes "note")

-- The line of a fault: its code, and the first line of its message in the form in which it is
-- shown.
abbrev pub head_line : Bool → Fault → List ℕ
head_line is_colored fault =
    code_text is_colored fault.code ++ (painted is_colored Strong (codes ": " ++ shown_text (first_line fault.message)) ++ codes "\n")

-- The line of a fault, and the one that names its location in the file.
abbrev pub fault_texts : Bool → SourceValue → ℕ → Fault → List (List ℕ)
fault_texts is_colored source begin fault = head_line is_colored fault ∷ location_line is_colored source begin fault.span.from ∷ []

-- The lines of a fault, and, if patterns explain it, the lines that name the locations of these
-- patterns.
abbrev pub explained_texts : Bool → SourceValue → ℕ → List ℕ → Fault → List (List ℕ)
explained_texts is_colored source begin starts fault =
    fault_texts is_colored source begin fault ++ (if is_explained fault.code then map (location_line is_colored source begin) starts else [])

-- Whether a fault has the code of this name.
abbrev pub has_name : List ℕ → Fault → Bool
has_name name fault = bytes_eq (name_of fault.code) name

-- The number of these faults that have this code, but at most one more than the number that is
-- shown.
abbrev pub seen_of : FaultCode → List Fault → ℕ
seen_of code faults = min (count_by (has_name (name_of code)) faults) 51

-- The number of faults of a code that are left out, in the words of the report.
abbrev pub rest_text : ℕ → List ℕ
rest_text count = codes ": " ++ (decimal count ++ codes " more are not shown")

-- The line with the number of faults of a code that are left out.
abbrev pub rest_line : Bool → FaultCode → ℕ → List ℕ
rest_line is_colored code count = code_text is_colored code ++ (painted is_colored Strong (rest_text count) ++ codes "\n")

-- The lines of the next fault of a list. A fault that belongs to an earlier report has only the
-- line that names its location.
abbrev pub listed_texts : Bool → SourceValue → ℕ → List ℕ → NextValue → Fault → List (List ℕ)
listed_texts is_colored source begin starts next fault =
    if follows next fault then location_line is_colored source begin fault.span.from ∷ [] else explained_texts is_colored source begin starts fault

-- The number of faults with a code that are left out: of all of them, saturating at the greatest
-- number, without those that are shown.
abbrev pub left_out : FaultCode → List Fault → ℕ
left_out code all = min (count_by (has_name (name_of code)) all) (2 ^ 64 - 1) - 50

-- The text of a fault of a list, after those before it: its lines, if fewer than 50 earlier ones
-- have its code; the number of those that are left out, if 50 have it; otherwise nothing.
abbrev pub counted_texts : Bool → SourceValue → ℕ → List ℕ → List Fault → List Fault → NextValue → Fault → List (List ℕ)
counted_texts is_colored source begin starts all front next fault =
    if nat_lt (seen_of fault.code front) 50 then listed_texts is_colored source begin starts next fault
    else if seen_of fault.code front == 50 then rest_line is_colored fault.code (left_out fault.code all) ∷ []
    else []

-- The texts of the faults after some earlier ones, in order.
abbrev pub texts_after : Bool → SourceValue → ℕ → List ℕ → List Fault → List Fault → NextValue → List Fault → List (List ℕ)
texts_after is_colored source begin starts all front next [] = []
texts_after is_colored source begin starts all front next (fault ∷ faults) =
    counted_texts is_colored source begin starts all front next fault ++ texts_after is_colored source begin starts all (front ++ fault ∷ []) (next_after next fault) faults

-- The texts of all faults of a part of a file. Patterns at these offsets explain faults. The sets
-- of ambiguous leaves have these sizes, in order, and each set has one report.
abbrev pub faults_texts : Bool → SourceValue → ℕ → List ℕ → List ℕ → List Fault → List (List ℕ)
faults_texts is_colored source begin starts sizes faults = texts_after is_colored source begin starts faults [] (first_faults sizes) faults

-- The number of errors, in the words of the report.
abbrev pub count_text : ℕ → List ℕ
count_text count = codes ": aborting due to " ++ (decimal count ++ (if count == 1 then codes " previous error" else codes " previous errors"))

-- The line with the number of errors.
abbrev pub summary_line : Bool → ℕ → List ℕ
summary_line is_colored count = painted is_colored Error (codes "error") ++ (painted is_colored Strong (count_text count) ++ codes "\n")
