use Rattle.logos_hir.proofs.sets.operands.+push_effect.Given as goal

abbrev pub decreases-push_effect : goal.decreases-push_effect
decreases-push_effect l = l.count
