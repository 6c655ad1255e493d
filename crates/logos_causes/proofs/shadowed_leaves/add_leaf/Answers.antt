use Rattle.logos_warnings.proofs.ShownLemmas.{adds_one}
use Rattle.logos_causes.specs.Warned.{IsHidden}
use Rattle.logos_causes.proofs.WarnedLemmas.{leaf_at}
use Rattle.logos_causes.proofs.shadowed_leaves.add_leaf.Goals as goal

pub returns : goal.returns
returns c =
    let has = leaf_at c.args.graph.now.leaves c.leaves.result.now c.args.number c.in-Some.leaf c.leaves.ensures c.in-Some.ensures.lookup in
    adds_one (IsHidden c.args.graph.now) _ _ _ c.in_ok-push.ensures.items (record { number = c.args.number; leaf = c.in-Some.leaf.now; has = has; unmarked = c.requires; span = c.in_ok-warning.ensures })
