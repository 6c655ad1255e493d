use Rattle.std.proofs.Common.{ap}
use Rattle.logos_hir.specs.RangeSets.{set_of}
use Rattle.logos_hir.specs.Operands.{with_operand}
use Rattle.logos_hir.proofs.lemmas.OperandLemmas.{same_made, first_operand}
use Rattle.logos_hir.proofs.sets.operands.Effect.of.Goals as goal

pub returns-in_ok-copy-in-None-2 : goal.returns-in_ok-copy-in-None-2
returns-in_ok-copy-in-None-2 c =
    let set = set_of c.args.set.now in
    same_made _ _ _ _ _ _ c.in_ok-copy-in-None.ensures c.in_ok-copy-in-None-2.ensures (λ before. ap (λ o. with_operand o before set) c.in-None.is) (first_operand set)
