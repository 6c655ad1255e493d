use Rattle.std.proofs.Common.{◌≡◌, ℕ, Bool, List, ◌++◌, drop, map}
use Rattle.std.specs.List.{flat_map}
use Rattle.logos_code.specs.Code.{Condition}
use Rattle.logos_code.specs.CodeView.{branch_of}
use Rattle.logos_graph.specs.GraphView.{edge_of}
use Rattle.logos_generator.specs.Nodes.{Extends, AreBranchesOf}
use Rattle.logos_generator.specs.Numbering.{numbered, branch_uses}
use Rattle.logos_generator.proofs.generator.fork.conditions_of.Given as goal

-- the branches of the edges that are left complete the branches, whatever tests come later
abbrev pub invariant-loop-edge : goal.invariant-loop-edge
invariant-loop-edge l = record {
  numbers : numbered l.tests.keys (flat_map (branch_uses l.state) (map edge_of (drop l.edge-index l.edges))) ≡ numbered l.initial.tests.keys (flat_map (branch_uses l.state) (map edge_of l.edges));
  grows : Extends l.initial.tests.keys l.tests.keys;
  completes : (all : List (List Bool)) → Extends l.tests.keys all → (rest : List (Condition × ℕ)) →
      AreBranchesOf all l.state (map edge_of (drop l.edge-index l.edges)) rest → AreBranchesOf all l.state (map edge_of l.edges) (map branch_of l.made.items ++ rest);
}
