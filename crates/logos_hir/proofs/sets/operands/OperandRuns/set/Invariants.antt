use Rattle.std.proofs.Common.{◌≡◌, drop}
use Rattle.logos_hir.specs.RangeSets.{set_of}
use Rattle.logos_hir.specs.Operands.{effects_on, made_by}
use Rattle.logos_hir.proofs.sets.operands.OperandRuns.set.Given as goal

-- the remaining effects turn the set so far into the result of all effects
abbrev pub invariant-loop-effect : goal.invariant-loop-effect
invariant-loop-effect l = effects_on (drop l.effect-index l.effect-items) (set_of l.made) ≡ made_by l.self
