-- The texts of refusals.
use Rattle.std.specs.Prelude.{◌≡◌, ℕ, ◌==◌, List, ◌++◌, codes, decimal, if◌then◌else◌, string_bytes}
use Rattle.std.specs.Char.{encode_utf8}
use Rattle.std.specs.List.{flat_map}
use Rattle.std.specs.Str.{chars}
use Rattle.logos_host.specs.declared.failure.Failure.{Failure}
use Rattle.logos_host.specs.declared.failure.Failure.TheVariants.{Memory, Refused}
use Rattle.logos_parser.specs.declared.refusal.Refusal.{Refusal}
use Rattle.logos_parser.specs.declared.refusal.Refusal.TheVariants as refusals
use Rattle.logos_token.specs.FaultNames.{name_of}
use Rattle.logos_token.specs.Faults.{Fault}
use Rattle.logos_commands.specs.declared.refusals.ExportRefusal.{ExportRefusal}
use Rattle.logos_commands.specs.declared.refusals.ExportRefusal.TheVariants.{NoPath, Dot, Extension}

-- A character, or `\n` in place of LF.
abbrev pub line_character : ℕ → List ℕ
line_character c = if c == 10 then codes "\\n" else encode_utf8 c

-- A text with `\n` in place of each LF.
abbrev pub on_one_line : List ℕ → List ℕ
on_one_line text = flat_map line_character (chars text)

-- The span and the code of a fault.
abbrev pub fault_head : Fault → List ℕ
fault_head fault = decimal fault.span.from ++ (codes ".." ++ (decimal fault.span.to ++ (codes " " ++ (name_of fault.code ++ codes ": "))))

-- The line of a fault.
abbrev pub fault_line : Fault → List ℕ
fault_line fault = fault_head fault ++ (on_one_line fault.message ++ codes "\n")

-- The lines of these faults, in order.
abbrev pub fault_lines : List Fault → List ℕ
fault_lines faults = flat_map fault_line faults

-- The line with the reason that a diagram is not exported.
abbrev pub export_line : ExportRefusal → List ℕ
export_line NoPath = codes "no export path\n"
export_line Dot = codes "DOT export is left out\n"
export_line Extension = codes "Export path must end in '.dot' or '.mmd', or it must be a directory.\n"

-- A text has the lines of the faults of a refusal.
abbrev pub IsTextOf : List ℕ → Refusal → Type 0
IsTextOf text (refusals.Errors faults) = text ≡ fault_lines faults
IsTextOf text refusals.Memory = ⊥

-- The failure for a refused source: its text has the lines of the faults, unless memory ran out.
abbrev pub IsRefusalOf : Refusal → Failure → Type 0
IsRefusalOf refusal (Refused text) = IsTextOf (string_bytes text) refusal
IsRefusalOf refusal Memory = Unit {0}
IsRefusalOf refusal failure = ⊥

-- The failure for a diagram that is not exported: its text is the line with the reason, unless
-- memory ran out.
abbrev pub IsUnexportedBy : ExportRefusal → Failure → Type 0
IsUnexportedBy why (Refused text) = string_bytes text ≡ export_line why
IsUnexportedBy why Memory = Unit {0}
IsUnexportedBy why failure = ⊥

-- The text of a failure has the lines of faults that satisfy `Holds`.
abbrev pub ShowsFaultsOf : (List Fault → Type 0) → Failure → Type 0
ShowsFaultsOf Holds (Refused text) = (faults : List Fault) × Holds faults × (string_bytes text ≡ fault_lines faults)
ShowsFaultsOf Holds failure = ⊥

-- The text of a failure has the reason that a diagram is not exported, and the reason satisfies
-- `Holds`.
abbrev pub ShowsReasonOf : (ExportRefusal → Type 0) → Failure → Type 0
ShowsReasonOf Holds (Refused text) = (why : ExportRefusal) × Holds why × (string_bytes text ≡ export_line why)
ShowsReasonOf Holds failure = ⊥
