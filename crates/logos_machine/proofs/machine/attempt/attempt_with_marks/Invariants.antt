use Rattle.std.proofs.Common.{ℕ, ◌+◌, ◌-◌, ◌≤◌, length}
use Rattle.logos_automaton.specs.Munch.{Found}
use Rattle.logos_code.specs.Runs.{AttemptsFrom, Attempts}
use Rattle.logos_machine.specs.inside.IsAt.{IsStatus}
use Rattle.logos_machine.specs.inside.Attempts.{status_of}
use Rattle.logos_machine.proofs.machine.attempt.attempt_with_marks.Given as goal

-- a continuation from here is the whole attempt
abbrev pub invariant-loop-next : goal.invariant-loop-next
invariant-loop-next l = record {
  is_at : IsStatus l.code l.input l.start (status_of l.at);
  few : l.before + l.start ≤ l.at.offset;
  continues : (found : Found) (n : ℕ) → AttemptsFrom l.code l.input l.start (status_of l.at) found n → Attempts l.code l.input l.start found (l.before + n);
}

abbrev pub decreases-loop-next : goal.decreases-loop-next
decreases-loop-next l = length l.input + 2 - l.at.offset
