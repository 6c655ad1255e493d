use Rattle.logos_positions.specs.Kinds.{test_at}
use Rattle.logos_positions.specs.Node.{core_of}
use Rattle.logos_positions.proofs.steps.TreeLemmas.{step_of}
use Rattle.logos_positions.proofs.positions.tree.step_tree.Goals as goal

pub returns : goal.returns
returns c = step_of (core_of c.args.node.now) (test_at c.args.by.at) c.args.by.byte c.args.by.marks.now c.step.new.next.items c.args.base c.in_ok-left.left (rw c.new-positions.ensures.items at c.in_ok-left.ensures)
