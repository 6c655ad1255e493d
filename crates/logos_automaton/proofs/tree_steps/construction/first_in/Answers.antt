use Rattle.std.proofs.Common.{◌+◌, ◌<◌, ◌^◌, IsTrue, slice_index, subst, sym, ◌∙◌, arith}
use Rattle.logos_automaton.specs.inside.Alike.{GoesAlike}
use Rattle.logos_positions.specs.Core.{width}
use Rattle.logos_positions.specs.Marks.{Has}
use Rattle.logos_positions.specs.Node.{core_of, is_measured}
use Rattle.logos_positions.specs.declared.node.Node.{Node}
use Rattle.logos_positions.proofs.steps.SeveralLemmas.{next_measured, start_fits}
use Rattle.logos_automaton.proofs.keys.WalkLemmas.{one_node}
use Rattle.logos_automaton.proofs.tree_steps.construction.first_in.Goals as goal

pub mark_tree-requires-clause-fits : goal.mark_tree-requires-clause-fits
mark_tree-requires-clause-fits c =
    let trees = c.args.trees.now in
    let p = c.requires.prepared in
    let tree = c.args.state.now.tree in
    let node = c.index-trees-state.result in
    let fits = start_fits trees.nodes.now trees.starts.now p.starts tree node c.requires.state.there c.index-trees-state.is in
    let here : slice_index trees.starts.now tree + width (core_of node) < 2 ^ 64 = omega (arith, fits, p.fits) in
    subst (λ (n : Node). slice_index trees.starts.now tree + width (core_of n) < 2 ^ 64) c.index-trees-state.is here

pub mark_tree-requires-clause-measured : goal.mark_tree-requires-clause-measured
mark_tree-requires-clause-measured c =
    subst (λ (n : Node). IsTrue (is_measured n)) c.index-trees-state.is
    (next_measured c.args.trees.now.nodes.now c.args.state.now.tree c.index-trees-state.result c.requires.state.there c.index-trees-state.is c.requires.prepared.measured)

pub returns : goal.returns
returns c = λ node is byte lt unmarked.
    let m = rw c.deref.ensures.value at c.mark_tree.ensures byte lt unmarked in
    let start = slice_index c.args.trees.now.starts.now c.args.state.now.tree in
    let same = one_node c.args.trees.now.nodes.now c.args.state.now.tree c.index-trees-state.result node c.requires.state.there c.index-trees-state.is is in (
      subst (λ (n : Node). GoesAlike (core_of n) (λ q. Has c.args.state.now.positions.items (start + q)) byte (byte + 1)) (sym c.index-trees-state.is ∙ same) m.1.0,
      λ looks. c.first_by_kind-first.ensures byte lt m.0 looks,
    )
