-- The views of a graph and of its leaves in contracts.
use Rattle.std.specs.Prelude.{Bool, List, map}
use Rattle.logos_pattern.specs.Leaf.{pattern_tree, is_skip, calls_back}
use Rattle.logos_automaton.specs.Munch.{Rule}
use Rattle.logos_graph.specs.Graph.{GraphState}
use Rattle.logos_automaton.specs.Faults.{Fault}
use Rattle.logos_pattern.specs.declared.leaf.Leaf.{Leaf}
use Rattle.logos_automaton.specs.Automaton.{Automaton}

-- The rule that a leaf represents.
abbrev pub rule_of : Leaf → Rule
rule_of leaf = record { tree = pattern_tree leaf.pattern; priority = leaf.priority; use_of = record { skips = is_skip leaf.kind; calls_back = calls_back leaf } }

-- The rules that leaves represent.
abbrev pub rules_of : List Leaf → List Rule
rules_of = map rule_of

-- A graph: its leaves, its mode, its faults, its states and its automaton.
pub record GraphValue : Type 0 where
  pub leaves : List Leaf
  pub utf8 : Bool
  pub faults : List Fault
  pub states : List GraphState
  pub automaton : Automaton
