-- The statuses of an attempt in a sound code.
use Rattle.std.specs.Prelude.{◌≡◌, ℕ, ◌+◌, ◌<◌, ◌≤◌, ◌⊎◌, List, length, Option, None, IfSome}
use Rattle.logos_automaton.specs.Munch.{Found, ended, matched, failed}
use Rattle.logos_code.specs.Code.{CodeValue}
use Rattle.logos_code.specs.CodeView.{state_at}
use Rattle.logos_code.specs.Headline.{IsLate}
use Rattle.logos_code.specs.Runs.{Status}

module _ (code : CodeValue) (bytes : List ℕ) (start : ℕ) where
  -- A match is not empty and ends within the input, and its leaf exists.
  abbrev pub IsMatch : ℕ → ℕ → Type 0
  IsMatch leaf to = (leaf < length code.leaves) × (start < to) × (to ≤ length bytes)

  abbrev pub IsContext : Option (ℕ × ℕ) → Type 0
  IsContext context = IfSome context (λ c. IsMatch c.0 c.1)

  -- One step past the input, in a state to which the end leads.
  pub record IsPast (at : Status) : Type 0 where
    pub offset : at.offset ≡ length bytes + 1
    pub late : IsLate code at.state
    pub last : (state_at code at.state).at_end ≡ None

  -- Each state that is entered after the root was entered on a byte or on the end. A state with a
  -- late mark is at least two bytes after the start.
  pub record IsStatus (at : Status) : Type 0 where
    pub state : at.state < length code.states
    pub begun : start ≤ at.offset
    pub first : at.offset ≡ start → (at.state ≡ code.root) × (at.context ≡ None)
    pub second : IsLate code at.state → start + 1 < at.offset
    pub within : (at.offset ≤ length bytes) ⊎ IsPast at
    pub context : IsContext at.context

  -- The result is not empty and ends within the input.
  abbrev pub StaysWithin : Found → Type 0
  StaysWithin ended = length bytes ≤ start
  StaysWithin (matched leaf to) = IsMatch leaf to
  StaysWithin (failed to) = (start < to) × (to ≤ length bytes)
