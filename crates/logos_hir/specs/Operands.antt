-- The effect of the operands of a bracket on a set, each with the operator before it.
use Rattle.std.specs.Prelude.{false, List, [], ◌∷◌, Option, Some, None, if◌then◌else◌}
use Rattle.logos_hir.specs.declared.sets.operands.SetOperator.{SetOperator}
use Rattle.logos_hir.specs.declared.sets.operands.SetOperator.TheVariants.{Intersection, Difference, SymmetricDifference}
use Rattle.logos_hir.specs.declared.sets.operands.Effect.{Effect}
use Rattle.logos_hir.specs.declared.sets.operands.OperandRuns.{OperandRuns}
use Rattle.logos_hir.specs.Sets.{Set, intersection, difference, symmetric_difference}
use Rattle.logos_hir.specs.RangeSets.{set_of}

-- Two sets combined with the operator between them.
abbrev pub combination : SetOperator → Set → Set → Set
combination Intersection = intersection
combination Difference = difference
combination SymmetricDifference = symmetric_difference

-- The set of the operands before, combined with one more. The first operand has no operator, and
-- the set before it is empty.
abbrev pub with_operand : Option SetOperator → Set → Set → Set
with_operand None before set = set
with_operand (Some op) before set = combination op before set

-- The members of `inside` that are in `test`, and those of `outside` that are not.
abbrev pub selection : Set → Set → Set → Set
selection test inside outside c = if test c then inside c else outside c

-- The result of effects on a set, from the left: it contains the members of the set that are
-- inside, and the numbers not in the set that are outside.
abbrev pub effects_on : List Effect → Set → Set
effects_on [] before = before
effects_on (e ∷ rest) before = effects_on rest (selection before (set_of e.inside) (set_of e.outside))

-- The set that the operands make, from the left. It is empty before the first operand.
abbrev pub made_by : OperandRuns → Set
made_by runs = effects_on runs.effects.items (λ c. false)
