use Rattle.std.proofs.Common.{◌+◌, ◌<◌, ◌^◌, IsTrue, slice_index, subst, arith}
use Rattle.logos_positions.specs.Core.{width}
use Rattle.logos_positions.specs.Node.{core_of, is_measured}
use Rattle.logos_positions.specs.declared.node.Node.{Node}
use Rattle.logos_positions.proofs.steps.SeveralLemmas.{next_measured, start_fits}
use Rattle.logos_automaton.proofs.tree_steps.construction.step_by.Goals as goal

pub step_tree-requires-clause-fits : goal.step_tree-requires-clause-fits
step_tree-requires-clause-fits c =
    let trees = c.args.trees.now in
    let p = c.requires.prepared in
    let tree = c.args.state.now.tree in
    let node = c.index-trees-state.result in
    let fits = start_fits trees.nodes.now trees.starts.now p.starts tree node c.requires.state.there c.index-trees-state.is in
    let here : slice_index trees.starts.now tree + width (core_of node) < 2 ^ 64 = omega (arith, fits, p.fits) in
    subst (λ (n : Node). slice_index trees.starts.now tree + width (core_of n) < 2 ^ 64) c.index-trees-state.is here

pub step_tree-requires-clause-measured : goal.step_tree-requires-clause-measured
step_tree-requires-clause-measured c =
    subst (λ (n : Node). IsTrue (is_measured n)) c.index-trees-state.is
    (next_measured c.args.trees.now.nodes.now c.args.state.now.tree c.index-trees-state.result c.requires.state.there c.index-trees-state.is c.requires.prepared.measured)
