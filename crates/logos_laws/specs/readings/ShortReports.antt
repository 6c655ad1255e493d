-- Reports in which nothing is left out.
use Rattle.std.specs.Prelude.{◌≡◌, ◌≤◌, ℕ, Bool, List, [], ◌∷◌}
use Rattle.std.specs.List.{count_by, flat_map}
use Rattle.logos_report.specs.Faults.{explained_texts, has_name}
use Rattle.logos_report.specs.Locations.{SourceValue}
use Rattle.logos_report.specs.Sets.{sizes_of, starts_of}
use Rattle.logos_report.specs.declared.file_report.Refused.{Refused}
use Rattle.logos_token.specs.FaultNames.{name_of}
use Rattle.logos_token.specs.Faults.{Fault}
use Rattle.logos_token.specs.declared.error.fault_code.FaultCode.{FaultCode}

-- No set of ambiguous leaves of these parts of a file has a clue.
abbrev pub HaveNoSets : List Refused → Type 0
HaveNoSets [] = Unit {0}
HaveNoSets (part ∷ parts) = (sizes_of part.clues ≡ []) × HaveNoSets parts

-- At most 50 of these faults have the same code.
abbrev pub AreFew : List Fault → Type 0
AreFew faults = (code : FaultCode) → count_by (has_name (name_of code)) faults ≤ 50

-- The lines of each fault of a part of a file, in order, with those of the patterns that explain
-- it.
abbrev pub lines_of : Bool → SourceValue → Refused → List (List ℕ)
lines_of is_colored source part = flat_map (explained_texts is_colored source part.offset (starts_of part.clues)) part.errors

-- The lines of each fault of all parts, in order.
abbrev pub all_lines : Bool → SourceValue → List Refused → List (List ℕ)
all_lines is_colored source parts = flat_map (lines_of is_colored source) parts
