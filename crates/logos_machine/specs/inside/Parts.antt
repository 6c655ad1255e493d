-- The views of an attempt on a part of an input in contracts.
use Rattle.std.specs.Prelude.{ℕ, ◌+◌, ◌-◌, ◌≤◌, List, length}
use Rattle.logos_automaton.specs.Munch.{Found, matched, failed}
use Rattle.logos_code.specs.Code.{CodeValue}
use Rattle.logos_code.specs.Runs.{Status, enters, acts, Does}
use Rattle.logos_machine.specs.Streams.{first_status, StopsWithin, AttemptsWithin, LooksPast}
use Rattle.logos_machine.specs.inside.Attempts.{context_of, status_of}
use Rattle.logos_machine.specs.inside.IsAt.{StaysWithin}
use Rattle.logos_machine.specs.declared.machine.part.Move.{Move}
use Rattle.logos_machine.specs.declared.machine.part.Move.TheVariants.{Enters, Acts, Waits}
use Rattle.logos_machine.specs.declared.machine.part.Settled.{Settled}
use Rattle.logos_machine.specs.declared.machine.part.Settled.TheVariants.{Matched, Failed, Open}

module _ (code : CodeValue) (part : List ℕ) (start : ℕ) where
  -- This is the turn of the entered state, if no byte after the part can change it.
  abbrev pub Moves : Status → Move → Type 0
  Moves at (Enters next) = StopsWithin code part start (length part) at × Does code part start at (enters (status_of next))
  Moves at (Acts context offset) = StopsWithin code part start (length part) at × Does code part start at (acts (context_of context) offset)
  Moves at Waits = LooksPast code part start at

  -- An attempt has this result in this number of states, and depends only on the part.
  pub record AttemptedWithin (found : Found) (steps : ℕ) : Type 0 where
    pub attempts : AttemptsWithin code part start (length part) found steps
    pub within : StaysWithin code part start found
    pub few : steps ≤ (length part - start) + 2

  -- The meaning of the result of an attempt in the part.
  abbrev pub IsSettled : Settled → Type 0
  IsSettled (Matched leaf to steps) = AttemptedWithin (matched leaf.0 to) steps
  IsSettled (Failed to steps) = AttemptedWithin (failed to) steps
  IsSettled Open = LooksPast code part start (first_status code start)
