-- Inputs that several leaves match with the same priority.
use Rattle.std.specs.Prelude.{ℕ, ◌≤◌, ◌↔◌, Bool, List, length, Contains}
use Rattle.logos_automaton.specs.Ambiguity.{IsHighest}
use Rattle.logos_automaton.specs.Munch.{Rule, IsInput}

-- An input that begins with a span for which exactly these leaves have the match of highest
-- priority.
pub record IsMeeting (rules : List Rule) (utf8 : Bool) (set : List ℕ) (bytes : List ℕ) : Type 0 where
  pub input : IsInput utf8 bytes
  pub to : ℕ
  pub exactly : (leaf : ℕ) → Contains set leaf ↔ IsHighest rules bytes 0 to leaf

-- A shortest input that satisfies `IsMeeting`.
pub record IsShortestMeeting (rules : List Rule) (utf8 : Bool) (set : List ℕ) (bytes : List ℕ) : Type 0 where
  pub meeting : IsMeeting rules utf8 set bytes
  pub least : (other : List ℕ) → IsMeeting rules utf8 set other → length bytes ≤ length other

-- No input is a meeting of these leaves.
abbrev pub NeverMeet : List Rule → Bool → List ℕ → Type 0
NeverMeet rules utf8 set = (bytes : List ℕ) → ¬ IsMeeting rules utf8 set bytes
