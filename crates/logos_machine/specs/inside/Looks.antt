-- The views of the fast path of an attempt in contracts.
use Rattle.std.specs.Prelude.{◌≡◌, ℕ, ◌+◌, ◌-◌, ◌<◌, ◌≤◌, ◌⊎◌, List, length, drop, Option, Some}
use Rattle.std.specs.List.{prefix_len}
use Rattle.logos_automaton.specs.Munch.{Found, ended, matched, failed}
use Rattle.logos_code.specs.Bytes.{passes_test}
use Rattle.logos_code.specs.Code.{CodeValue}
use Rattle.logos_code.specs.LastMarks.{IsOfAttempt}
use Rattle.logos_code.specs.Rows.{IsStepOf, IsUse, LeadsToRowStart}
use Rattle.logos_code.specs.Runs.{enters, acts, Does, AttemptsFrom, Attempts}
use Rattle.logos_machine.specs.inside.IsAt.{IsStatus, StaysWithin}
use Rattle.logos_code.specs.declared.code.rows.MatchUse.TheVariants.{Emits, Skips}
use Rattle.logos_code.specs.declared.code.rows.Step.{Step}
use Rattle.logos_code.specs.declared.code.rows.Step.TheVariants.{Leads, Stays, Halts, Looks, Closes, Stuck, Undescribed}
use Rattle.logos_machine.specs.declared.machine.walk.Outcome.{Outcome}
use Rattle.logos_machine.specs.declared.machine.walk.Outcome.TheVariants.{Skips as SkipsTo, Emits as EmitsTo, CallsBack as CallsBackTo, Fails, Ends}

-- The end of the bytes that pass a test.
abbrev pub StopsAt : CodeValue → ℕ → List ℕ → ℕ → ℕ → Type 0
StopsAt code test bytes from stop = stop ≡ from + prefix_len (passes_test code.bit_tables test) (drop from bytes)

module _ (code : CodeValue) (bytes : List ℕ) (start : ℕ) where
  -- The state leads to another one, regardless of the mark passed before.
  abbrev pub LeadsOn : (state offset stop next : ℕ) → Type 0
  LeadsOn state offset stop next = (context : Option (ℕ × ℕ)) → (passed : Option (ℕ × ℕ)) ×
      Does code bytes start (record { state = state; offset = offset; context = context }) (enters (record { state = next; offset = stop + 1; context = passed }))

  -- The attempt ends in the state with a match of the leaf up to the stop.
  abbrev pub EndsHere : (state offset stop leaf : ℕ) → Type 0
  EndsHere state offset stop leaf = (context : Option (ℕ × ℕ)) →
      Does code bytes start (record { state = state; offset = offset; context = context }) (acts (Some (leaf, stop)) stop)

  -- The attempt ends in the next state, one byte later, with a match of the leaf up to `end`.
  abbrev pub EndsNext : (state offset stop leaf end : ℕ) → Type 0
  EndsNext state offset stop leaf end = (context : Option (ℕ × ℕ)) → (next : ℕ) × (passed : Option (ℕ × ℕ)) ×
      Does code bytes start (record { state = state; offset = offset; context = context }) (enters (record { state = next; offset = stop + 1; context = passed })) ×
      Does code bytes start (record { state = next; offset = stop + 1; context = passed }) (acts (Some (leaf, end)) (stop + 1))

  -- The attempt ends in the state itself, with the last mark passed.
  abbrev pub EndsStuck : (state offset stop : ℕ) → Type 0
  EndsStuck state offset stop = (context : Option (ℕ × ℕ)) → (passed : Option (ℕ × ℕ)) ×
      Does code bytes start (record { state = state; offset = offset; context = context }) (acts passed stop)

  -- The step in the state is the turn of the state. Its fast loop ends at the stop.
  abbrev pub Sees : (state offset stop : ℕ) → Step → Type 0
  Sees state offset stop (Leads next) = LeadsOn state offset stop next
  Sees state offset stop (Stays test) = Unit {0}
  Sees state offset stop (Halts leaf used) = EndsHere state offset stop leaf.0 × IsUse code leaf.0 used
  Sees state offset stop (Looks leaf used) = EndsNext state offset stop leaf.0 stop × IsUse code leaf.0 used
  Sees state offset stop (Closes leaf used) = EndsNext state offset stop leaf.0 (stop + 1) × IsUse code leaf.0 used
  Sees state offset stop Stuck = stop < length bytes → EndsStuck state offset stop
  Sees state offset stop Undescribed = Unit {0}

  -- The attempt enters the state after `before` others, and its continuation from there is the
  -- whole attempt.
  pub record Comes (state offset before : ℕ) : Type 0 where
    pub context : Option (ℕ × ℕ)
    pub is_at : IsStatus code bytes start (record { state = state; offset = offset; context = context })
    pub of_attempt : IsOfAttempt code bytes start (record { state = state; offset = offset; context = context })
    pub few : before + start ≤ offset
    pub continues : (found : Found) (n : ℕ) → AttemptsFrom code bytes start (record { state = state; offset = offset; context = context }) found n → Attempts code bytes start found (before + n)

  -- The attempt enters the state after `before` others, its fast loop ends at the stop, and the
  -- entry represents the step of the state there.
  pub record Reaches (state entry stop before : ℕ) : Type 0 where
    pub offset : ℕ
    pub comes : Comes state offset before
    pub past : offset ≤ stop
    pub within : stop ≤ length bytes
    pub sees : (step : Step) → IsStepOf entry step → Sees state offset stop step
    pub row_start : LeadsToRowStart entry

  -- An attempt has this result in this number of states.
  pub record Attempted (found : Found) (steps : ℕ) : Type 0 where
    pub attempts : Attempts code bytes start found steps
    pub within : StaysWithin code bytes start found
    pub few : steps ≤ (length bytes - start) + 2

  -- The meaning of an outcome.
  abbrev pub IsOutcome : Outcome → Type 0
  IsOutcome (SkipsTo to) = (leaf : ℕ) × (steps : ℕ) × Attempted (matched leaf to) steps × IsUse code leaf Skips
  IsOutcome (EmitsTo leaf to steps) = Attempted (matched leaf.0 to) steps × IsUse code leaf.0 Emits
  IsOutcome (CallsBackTo leaf to steps) = Attempted (matched leaf.0 to) steps
  IsOutcome (Fails to steps) = Attempted (failed to) steps
  IsOutcome (Ends steps) = Attempted ended steps

-- An entry whose kind comes after those that continue an attempt, or one that continues it on a
-- byte.
abbrev pub ContinuesOrEnds : List ℕ → (entry stop : ℕ) → Type 0
ContinuesOrEnds bytes entry stop = ((entry < 268435456) × (stop < length bytes)) ⊎ (536870912 ≤ entry)

-- The meaning of the entry at the stop for the state that is entered at the offset.
pub record LooksAhead (code : CodeValue) (bytes : List ℕ) (state offset entry stop : ℕ) : Type 0 where
  pub past : offset ≤ stop
  pub within : stop ≤ length bytes
  pub moves : ContinuesOrEnds bytes entry stop
  pub sees : (start : ℕ) → start ≤ offset → (step : Step) → IsStepOf entry step → Sees code bytes start state offset stop step
  pub row_start : LeadsToRowStart entry
