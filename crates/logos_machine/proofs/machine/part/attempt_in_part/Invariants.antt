use Rattle.std.proofs.Common.{ℕ, ◌+◌, ◌-◌, ◌≤◌, length}
use Rattle.logos_automaton.specs.Munch.{Found}
use Rattle.logos_machine.specs.Streams.{first_status, AttemptsFromWithin, AttemptsWithin, LooksPast}
use Rattle.logos_machine.specs.inside.IsAt.{IsStatus}
use Rattle.logos_machine.specs.inside.Attempts.{status_of}
use Rattle.logos_machine.proofs.machine.part.attempt_in_part.Given as goal

-- a continuation from here is the whole attempt, and it looks at the end if this does
abbrev pub invariant-loop-next : goal.invariant-loop-next
invariant-loop-next l = record {
  is_at : IsStatus l.code l.part l.start (status_of l.at);
  few : l.before + l.start ≤ l.at.offset;
  continues : (found : Found) (n : ℕ) → AttemptsFromWithin l.code l.part l.start (length l.part) (status_of l.at) found n → AttemptsWithin l.code l.part l.start (length l.part) found (l.before + n);
  looks : LooksPast l.code l.part l.start (status_of l.at) → LooksPast l.code l.part l.start (first_status l.code l.start);
}

abbrev pub decreases-loop-next : goal.decreases-loop-next
decreases-loop-next l = length l.part + 2 - l.at.offset
