use Rattle.logos_hir.proofs.sets.operands.copy.Goals as goal

pub returns : goal.returns
returns c = rw c.ranges-2.ensures at c.from_ranges.ensures
