use Rattle.logos_hir.proofs.sets.operands.combination.Goals as goal

pub returns-in-Intersection : goal.returns-in-Intersection
returns-in-Intersection c = rw c.in-Intersection.is c.intersection.ensures

pub returns-in-Difference : goal.returns-in-Difference
returns-in-Difference c = rw c.in-Difference.is c.difference.ensures

pub returns-in-SymmetricDifference : goal.returns-in-SymmetricDifference
returns-in-SymmetricDifference c = rw c.in-SymmetricDifference.is c.symmetric_difference.ensures
