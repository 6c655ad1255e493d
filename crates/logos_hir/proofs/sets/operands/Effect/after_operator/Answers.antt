use Rattle.std.proofs.Common.{ap}
use Rattle.logos_hir.specs.RangeSets.{set_of}
use Rattle.logos_hir.specs.Operands.{combination}
use Rattle.logos_hir.proofs.lemmas.OperandLemmas.{same_made, by_intersection, by_difference, by_symmetric_difference}
use Rattle.logos_hir.proofs.sets.operands.Effect.after_operator.Goals as goal

pub returns-in_ok-copy-in-Intersection : goal.returns-in_ok-copy-in-Intersection
returns-in_ok-copy-in-Intersection c =
    let set = set_of c.args.set.now in
    same_made _ _ _ _ _ _ c.in_ok-nothing-in-Intersection.ensures c.in_ok-copy-in-Intersection.ensures (λ before. ap (λ o. combination o before set) c.in-Intersection.is) (by_intersection set)

pub returns-in_ok-complement-in-Difference : goal.returns-in_ok-complement-in-Difference
returns-in_ok-complement-in-Difference c =
    let set = set_of c.args.set.now in
    same_made _ _ _ _ _ _ c.in_ok-nothing-in-Difference.ensures c.in_ok-complement-in-Difference.ensures (λ before. ap (λ o. combination o before set) c.in-Difference.is) (by_difference set)

pub returns-in_ok-complement-in-SymmetricDifference :
    goal.returns-in_ok-complement-in-SymmetricDifference
returns-in_ok-complement-in-SymmetricDifference c =
    let set = set_of c.args.set.now in
    same_made _ _ _ _ _ _ c.in_ok-copy-in-SymmetricDifference.ensures c.in_ok-complement-in-SymmetricDifference.ensures (λ before. ap (λ o. combination o before set) c.in-SymmetricDifference.is)
    (by_symmetric_difference set)
