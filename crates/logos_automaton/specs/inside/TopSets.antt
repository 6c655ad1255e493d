-- The sets of leaves with the highest priority that an automaton lists.
use Rattle.std.specs.Prelude.{◌≡◌, ℕ, ◌≤◌, ◌↔◌, max, List, [], ◌∷◌, filter, length, Contains, Some, nat_eq, slice_get}
use Rattle.logos_automaton.specs.Munch.{Rule, priority_of}
use Rattle.logos_automaton.specs.Faults.{Ascends}

module _ (rules : List Rule) where
  -- The highest priority among these leaves.
  abbrev pub highest_of : List ℕ → ℕ
  highest_of [] = 0
  highest_of (leaf ∷ leaves) = max (priority_of rules leaf) (highest_of leaves)

  -- The leaves with this priority.
  abbrev pub with_priority : ℕ → List ℕ → List ℕ
  with_priority priority leaves = filter (λ leaf. nat_eq (priority_of rules leaf) priority) leaves

  -- The leaves with the highest priority.
  abbrev pub top_of : List ℕ → List ℕ
  top_of leaves = with_priority (highest_of leaves) leaves

  -- These are the leaves with the highest priority among `listed`, and there are two or more.
  pub record IsTopSet (listed set : List ℕ) : Type 0 where
    pub several : 2 ≤ length set
    pub top : set ≡ top_of listed

  -- The set is the top set of one of the lists.
  abbrev pub IsTopIn : List (List ℕ) → List ℕ → Type 0
  IsTopIn lists set = (s : ℕ) × (listed : List ℕ) × (slice_get lists s ≡ Some listed) × IsTopSet listed set

  -- All top sets of the lists, in ascending order.
  pub record AreTopSets (lists sets : List (List ℕ)) : Type 0 where
    pub ascending : Ascends sets
    pub exactly : (set : List ℕ) → Contains sets set ↔ IsTopIn lists set
