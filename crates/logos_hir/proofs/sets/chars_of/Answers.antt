use Rattle.std.proofs.Common.{rules, arith}
use Rattle.std.proofs.lemmas.Grind.{common_steps}
use Rattle.logos_hir.proofs.sets.chars_of.Goals as goal

pub loop-range-init : goal.loop-range-init
loop-range-init c = search rules

pub offset_bounds-ranges-range-index : goal.offset_bounds-ranges-range-index
offset_bounds-ranges-range-index c = search rules

pub bounds-ranges-range-index : goal.bounds-ranges-range-index
bounds-ranges-range-index c = search rules

pub returns-in_err-push_chars-clause-ranges : goal.returns-in_err-push_chars-clause-ranges
returns-in_err-push_chars-clause-ranges c = search rules

pub returns-in_err-push_chars-clause-members : goal.returns-in_err-push_chars-clause-members
returns-in_err-push_chars-clause-members c = search rules

pub loop-range-smaller : goal.loop-range-smaller
loop-range-smaller c = search rules

pub loop-range-preserved : goal.loop-range-preserved
loop-range-preserved c = grind (arith, common_steps)

pub returns-clause-ranges : goal.returns-clause-ranges
returns-clause-ranges c = search rules

pub returns-clause-members : goal.returns-clause-members
returns-clause-members c = grind (arith, common_steps)
