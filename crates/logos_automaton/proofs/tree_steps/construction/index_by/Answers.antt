use Rattle.std.proofs.Common.{sym, subst}
use Rattle.logos_automaton.specs.inside.Steps.{MakesFrom, tree_view}
use Rattle.logos_automaton.proofs.tree_steps.construction.index_by.Goals as goal

pub returns-clause-made : goal.returns-clause-made
returns-clause-made c =
    let trees = c.args.trees.now in
    subst (MakesFrom trees.nodes.now trees.starts.now (tree_view c.args.state.now) c.args.byte) (sym c.in_ok-i.ensures.stored) c.in_ok-step.ensures
