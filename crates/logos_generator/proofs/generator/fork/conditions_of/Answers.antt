use Rattle.std.proofs.Common.{◌≡◌, [], drop, map, append-nil, refl, arith}
use Rattle.std.proofs.lemmas.List.{drop_all}
use Rattle.logos_code.specs.CodeView.{branch_of}
use Rattle.logos_graph.specs.GraphView.{edge_of}
use Rattle.logos_generator.specs.Nodes.{AreBranchesOf}
use Rattle.logos_generator.specs.Numbering.{branch_uses}
use Rattle.logos_generator.proofs.ForkLemmas.{Extends_same, Extends_trans, branches_turn}
use Rattle.logos_generator.proofs.NumberLemmas.{edges_numbered}
use Rattle.logos_generator.proofs.generator.fork.conditions_of.Goals as goal

pub loop-edge-preserved : goal.loop-edge-preserved
loop-edge-preserved c =
    let e = c.in_ok-add_branch.ensures in
    record {
      numbers = edges_numbered (branch_uses c.args.state) c.args.edges.now c.loop-edge.edge-index c.edge-item.result _ _ _ c.loop-edge-test.true (rw c.edge-item.is at e.numbers)
          c.loop-edge.invariant.numbers;
      grows = Extends_trans _ _ _ c.loop-edge.invariant.grows e.grows;
      completes = λ all f. branches_turn all c.add_branch.new.tests.keys c.args.edges.now c.loop-edge.edge-index c.edge-item.result c.args.state
          c.loop-edge.made.items c.add_branch.new.made.items c.loop-edge-test.true f (rw c.edge-item.is at e.adds)
          (AreBranchesOf all c.args.state (map edge_of c.args.edges.now))
          (c.loop-edge.invariant.completes all (Extends_trans _ _ _ e.grows f));
    }

pub returns-clause-are : goal.returns-clause-are
returns-clause-are c =
    let e : drop c.loop-edge.edge-index c.args.edges.now ≡ [] = drop_all c.loop-edge.edge-index c.args.edges.now (omega (arith, c.loop-edge-test.false)) in
    rw (append-nil (map branch_of c.loop-edge.made.items)) at
    (c.loop-edge.invariant.completes c.loop-edge.tests.keys (Extends_same _) [] (rw e refl))

pub returns-clause-numbers : goal.returns-clause-numbers
returns-clause-numbers c =
    let e : drop c.loop-edge.edge-index c.args.edges.now ≡ [] = drop_all c.loop-edge.edge-index c.args.edges.now (omega (arith, c.loop-edge-test.false)) in
    rw e at c.loop-edge.invariant.numbers
