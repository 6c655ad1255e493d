-- The views of an attempt in contracts.
use Rattle.std.specs.Prelude.{ℕ, Option, option_map}
use Rattle.logos_hir.specs.declared.leaf.LeafId.{LeafId}
use Rattle.logos_automaton.specs.Munch.{Found, ended, matched, failed}
use Rattle.logos_code.specs.Runs.{Status, Turn, enters, acts, returns}
use Rattle.logos_machine.specs.declared.machine.attempt.Status.{Status as TheStatus}
use Rattle.logos_machine.specs.declared.machine.attempt.Turn.{Turn as TheTurn}
use Rattle.logos_machine.specs.declared.machine.attempt.Turn.TheVariants.{Enters, Acts, Returns}
use Rattle.logos_machine.specs.declared.machine.attempt.Found.{Found as TheFound}
use Rattle.logos_machine.specs.declared.machine.attempt.Found.TheVariants.{Ended, Matched, Failed}

-- The last mark that a value represents.
abbrev pub context_of : Option (LeafId × ℕ) → Option (ℕ × ℕ)
context_of = option_map (λ c. (c.0.0, c.1))

-- The status that a value represents.
abbrev pub status_of : TheStatus → Status
status_of at = record { state = at.state; offset = at.offset; context = context_of at.context }

-- The turn that a value represents.
abbrev pub turn_of : TheTurn → Turn
turn_of (Enters next) = enters (status_of next)
turn_of (Acts context offset) = acts (context_of context) offset
turn_of Returns = returns

-- The result that a value represents.
abbrev pub found_of : TheFound → Found
found_of Ended = ended
found_of (Matched leaf to) = matched leaf.0 to
found_of (Failed to) = failed to
