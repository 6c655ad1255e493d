-- Inputs on which a leaf matches and another one takes the match.
use Rattle.std.specs.Prelude.{◌≢◌, ℕ, ◌≤◌, Bool, List, length}
use Rattle.logos_automaton.specs.Munch.{Rule, IsInput, RuleMatches, Finds, matched}

-- An input that begins with a match of the leaf, and on which maximal munch finds a match of
-- another leaf first.
pub record IsLoss (rules : List Rule) (utf8 : Bool) (leaf : ℕ) (bytes : List ℕ) : Type 0 where
  pub input : IsInput utf8 bytes
  pub end : ℕ
  pub matches : RuleMatches rules leaf bytes 0 end
  pub winner : ℕ
  pub to : ℕ
  pub found : Finds rules utf8 bytes 0 (matched winner to)
  pub other : winner ≢ leaf

-- A shortest input that satisfies `IsLoss`.
pub record IsShortestLoss (rules : List Rule) (utf8 : Bool) (leaf : ℕ) (bytes : List ℕ) : Type 0 where
  pub loss : IsLoss rules utf8 leaf bytes
  pub least : (other : List ℕ) → IsLoss rules utf8 leaf other → length bytes ≤ length other

-- The leaf loses no match from the beginning of an input.
abbrev pub NeverLoses : List Rule → Bool → ℕ → Type 0
NeverLoses rules utf8 leaf = (bytes : List ℕ) → ¬ IsLoss rules utf8 leaf bytes
