-- The matches from an offset of an input.
use Rattle.std.specs.Prelude.{◌≡◌, ◌↔◌, ◌⊎◌, ◌<◌, ◌≤◌, ℕ, List, Contains}
use Rattle.std.specs.List.{AllPairs}
use Rattle.logos_automaton.specs.Munch.{Rule, RuleMatches, priority_of}
use Rattle.logos_evidence.specs.declared.matches.Match.{Match}

-- A match from the offset `from`, with the priority of its leaf.
pub record IsMatch (rules : List Rule) (bytes : List ℕ) (from : ℕ) (m : Match) : Type 0 where
  pub matches : RuleMatches rules m.leaf bytes from m.end
  pub priority : m.priority ≡ priority_of rules m.leaf

-- Match `a` ends before match `b`, or ends there and has a lower leaf.
abbrev pub IsBefore : Match → Match → Type 0
IsBefore a b = (a.end < b.end) ⊎ ((a.end ≡ b.end) × (a.leaf < b.leaf))

-- All matches from the offset `from`, in order.
pub record AreMatches (rules : List Rule) (bytes : List ℕ) (from : ℕ) (matches : List Match) : Type 0 where
  pub in_order : AllPairs IsBefore matches
  pub exactly : (m : Match) → Contains matches m ↔ IsMatch rules bytes from m

-- Match `b` is longer than match `a`, or of the same length and no lower priority.
abbrev pub IsAtMost : Match → Match → Type 0
IsAtMost a b = (a.end < b.end) ⊎ ((a.end ≡ b.end) × (a.priority ≤ b.priority))

-- The longest of the matches, and at its end one of the highest priority.
pub record IsWinner (matches : List Match) (m : Match) : Type 0 where
  pub one : Contains matches m
  pub best : (other : Match) → Contains matches other → IsAtMost other m
