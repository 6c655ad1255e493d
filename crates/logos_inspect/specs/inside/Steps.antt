-- The flags of the leaves that a graph marks, while they are collected.
use Rattle.std.specs.Prelude.{◌≡◌, ◌<◌, ◌⊎◌, ◌↔◌, ℕ, Bool, List, length, Option, Some}
use Rattle.logos_graph.specs.Graph.{GraphState}
use Rattle.logos_inspect.specs.Marks.{IsMarkedBelow, IsSet}

-- One more flag is set, if the leaf exists.
pub record AddsMark (before : List Bool) (leaf : Option ℕ) (after : List Bool) : Type 0 where
  pub count : length after ≡ length before
  pub each : (k : ℕ) → k < length before → IsSet after k ↔ (IsSet before k ⊎ (leaf ≡ Some k))

-- The flags of the leaves that the first `count` states mark.
pub record AreMarksBelow (states : List GraphState) (leaves count : ℕ) (flags : List Bool) : Type 0 where
  pub length_is : length flags ≡ leaves
  pub each : (leaf : ℕ) → leaf < leaves → IsSet flags leaf ↔ IsMarkedBelow states count leaf
