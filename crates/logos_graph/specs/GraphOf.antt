-- The contract of a graph with the leaves from which it is made.
use Rattle.std.specs.Prelude.{◌≡◌, ◌^◌, ◌<◌, ◌≤◌, Bool, List, [], length}
use Rattle.logos_pattern.specs.declared.leaf.Leaf.{Leaf}
use Rattle.logos_automaton.specs.Faults.{Fault, AreFaults, AllStart}
use Rattle.logos_graph.specs.Found.{FindsTheLongest}
use Rattle.logos_graph.specs.Least.{IsLeast}
use Rattle.logos_automaton.specs.Munch.{Rule}
use Rattle.logos_automaton.specs.ReadKeys.{HasMoreKeys}
use Rattle.logos_graph.specs.Reduced.{IsReduced}
use Rattle.logos_automaton.specs.Measures.{size_of}
use Rattle.logos_graph.specs.View.{rules_of, GraphValue}
use Rattle.logos_automaton.specs.Automaton.{Automaton, IsTotal, ReadsOneByteLate}
use Rattle.logos_automaton.specs.declared.errors.BuildError.{BuildError}
use Rattle.logos_automaton.specs.declared.errors.BuildError.TheVariants.{LimitSize, LimitStates, Memory}

-- The contract of a graph with its leaves.
pub record IsGraphOf (leaves : List Leaf) (utf8 : Bool) (graph : GraphValue) : Type 0 where
  pub leaves_are : graph.leaves ≡ leaves
  pub mode : graph.utf8 ≡ utf8
  -- The errors are exactly the faults of the leaves.
  pub faults_are : AreFaults (rules_of leaves) graph.faults
  -- If no pattern matches the empty string or has a look-around assertion before its first byte,
  -- the automaton lists each match one byte late.
  pub late : AllStart (rules_of leaves) → ReadsOneByteLate (rules_of leaves) graph.automaton
  -- Without a fault the graph has, at each point of each input, the result of maximal munch.
  pub finds : graph.faults ≡ [] → FindsTheLongest (rules_of leaves) utf8 graph.states
  pub reduced : graph.faults ≡ [] → IsReduced (rules_of leaves) graph.states
  pub least : graph.faults ≡ [] → IsLeast graph.states

-- The condition under which there is no graph of the rules.
abbrev pub Refuses : List Rule → BuildError → Type 0
Refuses rules LimitSize = 2 ^ 20 < size_of rules
Refuses rules LimitStates = AllStart rules × HasMoreKeys rules 65536
Refuses rules Memory = Unit {0}

-- The automaton and the faults of the rules.
pub record AreFindings (rules : List Rule) (dfa : Automaton) (faults : List Fault) : Type 0 where
  pub total : IsTotal dfa
  pub few : length dfa.matches ≤ 65536
  pub late : AllStart rules → ReadsOneByteLate rules dfa
  pub faults_are : AreFaults rules faults
