-- The leaf of a state's late mark.
use Rattle.std.specs.Prelude.{ℕ, List, [], ◌∷◌, Option, Some, None, nat_lt, if◌then◌else◌}
use Rattle.logos_automaton.specs.Munch.{Rule, priority_of}

module _ (rules : List Rule) where
  -- The leaf, or the other one if that has a higher priority.
  abbrev pub higher : ℕ → Option ℕ → ℕ
  higher leaf None = leaf
  higher leaf (Some other) = if nat_lt (priority_of rules leaf) (priority_of rules other) then other else leaf

  -- A leaf with the highest priority among those listed.
  abbrev pub first_of : List ℕ → Option ℕ
  first_of [] = None
  first_of (leaf ∷ leaves) = Some (higher leaf (first_of leaves))
