use Rattle.std.proofs.Common.{arith}
use Rattle.logos_positions.proofs.steps.SeveralLemmas.{next_start, node_at}
use Rattle.logos_automaton.proofs.cache.tree_state.Goals as goal

pub marks_between-requires-clause-order : goal.marks_between-requires-clause-order
marks_between-requires-clause-order c =
    let trees = c.args.trees.now in
    let node = node_at trees.nodes.now c.args.tree c.requires.within in
    let next = next_start trees.nodes.now trees.starts.now c.requires.prepared.starts c.args.tree node.0 c.requires.within node.1 in
    omega (arith, next)
