use Rattle.std.proofs.Common.{◌+◌, ◌≤◌, length, map, refl, arith}
use Rattle.logos_positions.specs.Kinds.{test_at}
use Rattle.logos_positions.specs.Node.{core_of}
use Rattle.logos_positions.proofs.steps.SeveralLemmas.{next_measured, numbers_after, numbers_first, pass_numbers, positions_after, positions_first, pass_positions}
use Rattle.logos_positions.proofs.positions.trees.step_all.Goals as goal

pub step-requires-clause-measured : goal.step-requires-clause-measured
step-requires-clause-measured c = next_measured c.args.forest.nodes.now c.loop-number.number c.index-nodes-number.result c.loop-number-test.true c.index-nodes-number.is c.requires.measured

pub loop-number-init : goal.loop-number-init
loop-number-init c =
    let n = c.next_tree-number.ensures in
    let nodes = c.args.forest.nodes.now in
    let starts = c.args.forest.starts.now in
    let within : c.next_tree-number.result ≤ length nodes = omega (arith, n.bound, c.requires.starts.count) in
    record {
      within = within;
      positions = pass_positions nodes starts c.requires.starts c.args.by.marks.now (test_at c.args.by.at) (map core_of nodes) c.args.by.byte c.args.entered _ 0 c.next_tree-number.result n.after within n.stays n.unmarked
          (rw c.new-positions.ensures.items (positions_first nodes starts c.requires.starts c.args.by.marks.now (test_at c.args.by.at) (map core_of nodes) c.args.by.byte c.args.entered refl));
      numbers = pass_numbers nodes starts c.requires.starts c.args.by.marks.now (test_at c.args.by.at) (map core_of nodes) c.args.entered _ 0 c.next_tree-number.result n.after within n.stays n.unmarked
          (rw c.new-left.ensures.items (numbers_first nodes starts c.requires.starts c.args.by.marks.now (test_at c.args.by.at) (map core_of nodes) c.args.entered refl));
    }

pub loop-number-preserved : goal.loop-number-preserved
loop-number-preserved c =
    let n = c.next_tree-number-in-loop-number.ensures in
    let nodes = c.args.forest.nodes.now in
    let starts = c.args.forest.starts.now in
    let within : c.next_tree-number-in-loop-number.result ≤ length nodes = omega (arith, n.bound, c.requires.starts.count) in
    record {
      within = within;
      positions = pass_positions nodes starts c.requires.starts c.args.by.marks.now (test_at c.args.by.at) (map core_of nodes) c.args.by.byte c.args.entered _ (c.loop-number.number + 1) c.next_tree-number-in-loop-number.result n.after within n.stays n.unmarked
          (positions_after nodes starts c.requires.starts c.args.by.marks.now (test_at c.args.by.at) (map core_of nodes) c.args.by.byte c.args.entered c.in_ok-leaves.leaves _ _ c.loop-number.number c.index-nodes-number.result
          c.loop-number-test.true c.index-nodes-number.is c.in_ok-leaves.ensures c.loop-number.invariant.positions);
      numbers = pass_numbers nodes starts c.requires.starts c.args.by.marks.now (test_at c.args.by.at) (map core_of nodes) c.args.entered _ (c.loop-number.number + 1) c.next_tree-number-in-loop-number.result n.after within n.stays n.unmarked
          (numbers_after nodes starts c.requires.starts c.args.by.marks.now (test_at c.args.by.at) (map core_of nodes) c.args.entered c.in_ok-leaves.leaves _ _ c.loop-number.number c.index-nodes-number.result
          c.loop-number-test.true c.index-nodes-number.is c.in_ok-leaves.ensures.leaves c.in_ok-note.ensures c.loop-number.invariant.numbers);
    }
