-- The sizes of the sets of ambiguous leaves of a source.
use Rattle.std.specs.Prelude.{◌≡◌, ℕ, ◌<◌, ◌≤◌, ◌^◌, List, [], ◌∷◌, length, map}
use Rattle.std.specs.List.{flat_map}
use Rattle.logos_automaton.specs.Faults.{AllStart, AreFaults, Fault, disambiguation}
use Rattle.logos_automaton.specs.Measures.{size_of}
use Rattle.logos_automaton.specs.ReadKeys.{HasMoreKeys}
use Rattle.logos_graph.specs.View.{rules_of}
use Rattle.logos_parser.specs.Analyses.{AnalysisView, IsAnalysis}
use Rattle.logos_parser.specs.Endings.{EndsReading}
use Rattle.logos_parser.specs.Views.{leaf_view}
use Rattle.logos_pattern.specs.declared.leaf.Leaf.{Leaf}
use Rattle.logos_token.specs.Faults.{Fault as SourceFault}

-- The number of leaves of the set of ambiguous leaves that a fault of a graph reports, if it
-- reports one.
abbrev pub set_size : Fault → List ℕ
set_size (disambiguation set) = length set ∷ []
set_size fault = []

-- The number of leaves of each set of ambiguous leaves among faults of a graph, in order.
abbrev pub set_sizes : List Fault → List ℕ
set_sizes faults = flat_map set_size faults

-- The sizes of the sets of ambiguous leaves of some leaves, in order: those among the faults of
-- their graph, and none if a limit prevents its construction.
pub data LeavesHaveSets (leaves : List Leaf) (sizes : List ℕ) : Type 0 where
  of_graph : (faults : List Fault) → size_of (rules_of leaves) ≤ 2 ^ 20 → AreFaults (rules_of leaves) faults → sizes ≡ set_sizes faults → LeavesHaveSets leaves sizes
  too_large : 2 ^ 20 < size_of (rules_of leaves) → sizes ≡ [] → LeavesHaveSets leaves sizes
  too_many_states : AllStart (rules_of leaves) → HasMoreKeys (rules_of leaves) 65536 → sizes ≡ [] → LeavesHaveSets leaves sizes

-- The sizes of the sets of ambiguous leaves of a source: those of its leaves, and none if a fault
-- ends its reading.
pub data HasSets (source : List ℕ) (sizes : List ℕ) : Type 0 where
  unread : {fault : SourceFault} → EndsReading source fault → sizes ≡ [] → HasSets source sizes
  read : {analysis : AnalysisView} {leaves : List Leaf} → IsAnalysis source analysis → analysis.leaves ≡ map leaf_view leaves → LeavesHaveSets leaves sizes → HasSets source sizes
