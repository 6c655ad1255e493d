-- Operands before an operator.
use Rattle.std.proofs.Common.{◌≡◌, Option, Some, None, option_map, refl}
use Rattle.logos_hir.specs.declared.sets.operands.SetOperator.{SetOperator}
use Rattle.logos_hir.specs.Sets.{Set}
use Rattle.logos_hir.specs.Operands.{with_operand}
use Rattle.logos_syntax.specs.inside.BracketStack.{with_before}

-- one operand more
pub operand_added : (o : Option SetOperator) (before here : Set) → with_operand o before here ≡ with_before (option_map (λ op. (before, op)) o) here
operand_added None before here = refl
operand_added (Some op) before here = refl
