-- Rules that are not distinguished by length and priority.
use Rattle.std.specs.Prelude.{ℕ, ◌≤◌, ◌↔◌, List, length, Contains}
use Rattle.std.specs.List.Sorted.{IsStrictlyIncreasing}
use Rattle.logos_hir.specs.Text.{IsBytes}
use Rattle.logos_automaton.specs.Munch.{Rule, RuleMatches, priority_of}

-- The rule matches the span, and no rule with a higher priority does.
pub record IsHighest (rules : List Rule) (bytes : List ℕ) (from to leaf : ℕ) : Type 0 where
  pub matches : RuleMatches rules leaf bytes from to
  pub highest : (other : ℕ) → RuleMatches rules other bytes from to → priority_of rules other ≤ priority_of rules leaf

-- The set consists of all rules with the highest priority at some span of some bytes, and has two
-- or more rules.
pub record IsAmbiguous (rules : List Rule) (set : List ℕ) : Type 0 where
  pub several : 2 ≤ length set
  pub ascending : IsStrictlyIncreasing set
  pub bytes : List ℕ
  pub are_bytes : IsBytes bytes
  pub from : ℕ
  pub to : ℕ
  pub exactly : (leaf : ℕ) → Contains set leaf ↔ IsHighest rules bytes from to leaf
