-- Sets of ambiguous leaves, each with one report for all its faults.
use Rattle.std.specs.Prelude.{ℕ, ◌+◌, ◌-◌, List, [], ◌∷◌, Bool, false, ◌&&◌, nat_lt, cond, if◌then◌else◌, length, map, min, not, take}
use Rattle.logos_token.specs.Faults.{Fault}
use Rattle.logos_report.specs.Codes.{is_ambiguity, is_error}
use Rattle.logos_report.specs.declared.clues.Clues.{Clues}
use Rattle.logos_report.specs.declared.clues.Meeting.{Meeting}
use Rattle.logos_report.specs.declared.clues.NextFaults.{NextFaults}
use Rattle.logos_report.specs.declared.clues.Start.{Start}

-- The next faults of a list: the numbers of leaves of the sets that have faults left, and the
-- number of passed faults of the first set.
pub record NextValue : Type 0 where
  pub sizes : List ℕ
  pub passed : ℕ

-- The number of leaves of a set.
abbrev pub size_of : Meeting → ℕ
size_of meeting = length meeting.names.items

-- The number of leaves of each set with a clue.
abbrev pub sizes_of : Clues → List ℕ
sizes_of clues = map size_of clues.meetings.items

-- The offset of a pattern that explains a fault.
abbrev pub from_of : Start → ℕ
from_of start = start.span.from

-- The offsets of these patterns, of which the first 50 are shown.
abbrev pub offsets_of : List Start → List ℕ
offsets_of starts = map from_of (take (min (length starts) 50) starts)

-- The offsets of the patterns of these clues.
abbrev pub starts_of : Clues → List ℕ
starts_of clues = offsets_of clues.starts.items

-- The offsets of the patterns that explain the next faults.
abbrev pub starts_in : NextFaults → List ℕ
starts_in next = offsets_of next.starts.now

-- The view of the next faults.
abbrev pub next_value : NextFaults → NextValue
next_value next = record { sizes = map size_of next.meetings.now; passed = next.passed }

-- The state before the first fault.
abbrev pub first_faults : List ℕ → NextValue
first_faults sizes = record { sizes = sizes; passed = 0 }

-- The state after a fault of the first of these sets: at its next fault, or at the next set.
abbrev pub stepped : NextValue → List ℕ → NextValue
stepped next [] = next
stepped next (size ∷ rest) = if nat_lt next.passed (size - 1) then record { sizes = next.sizes; passed = next.passed + 1 } else record { sizes = rest; passed = 0 }

-- The state after one more fault.
abbrev pub next_after : NextValue → Fault → NextValue
next_after next fault = if is_ambiguity fault.code then stepped next next.sizes else next

-- Whether the first fault of a set was passed.
abbrev pub is_begun : ℕ → List ℕ → Bool
is_begun passed [] = false
is_begun passed (size ∷ rest) = nat_lt 0 passed

-- Whether the next fault belongs to the report of an earlier one: of the first one of its set.
abbrev pub follows : NextValue → Fault → Bool
follows next fault = is_ambiguity fault.code && is_begun next.passed next.sizes

-- Whether a report of an error begins with a fault.
abbrev pub begins_error : NextValue → Fault → Bool
begins_error next fault = is_error fault.code && not (follows next fault)

-- The number of error reports for faults.
abbrev pub errors_after : NextValue → List Fault → ℕ
errors_after next [] = 0
errors_after next (fault ∷ faults) = cond (begins_error next fault) 1 0 + errors_after (next_after next fault) faults
