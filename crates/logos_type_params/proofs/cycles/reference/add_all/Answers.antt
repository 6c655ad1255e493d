use Rattle.logos_type_params.specs.cycles.inside.Traversals.{Reaches}
use Rattle.logos_type_params.proofs.cycles.TraversalLemmas.{reaches_on, reaches_end}
use Rattle.logos_type_params.proofs.cycles.reference.add_all.Goals as goal

pub loop-to-preserved : goal.loop-to-preserved
loop-to-preserved c =
    reaches_on (λ found waiting. Reaches c.args.targets.now c.args.traversal.now.found.items c.args.traversal.now.waiting.items found waiting)
    c.args.targets.now c.loop-to.to-index c.loop-to.traversal.found.items c.add.new.traversal.found.items c.loop-to.traversal.waiting.items c.add.new.traversal.waiting.items
    c.loop-to.invariant c.loop-to-test.true c.in_ok-add.ensures

pub returns : goal.returns
returns c = c.loop-to.invariant c.loop-to.traversal.found.items c.loop-to.traversal.waiting.items
    (reaches_end c.args.targets.now c.loop-to.to-index c.loop-to.traversal.found.items c.loop-to.traversal.waiting.items c.loop-to-test.false)
