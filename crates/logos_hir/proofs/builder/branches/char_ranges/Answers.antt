use Rattle.std.proofs.Common.{rules, arith}
use Rattle.std.proofs.lemmas.Grind.{common_steps}
use Rattle.logos_hir.proofs.builder.branches.char_ranges.Goals as goal

pub loop-branch-init : goal.loop-branch-init
loop-branch-init c = search rules

pub offset_bounds-branches-branch-index : goal.offset_bounds-branches-branch-index
offset_bounds-branches-branch-index c = search rules

pub bounds-branches-branch-index : goal.bounds-branches-branch-index
bounds-branches-branch-index c = search rules

pub returns-in_err-push_char_ranges : goal.returns-in_err-push_char_ranges
returns-in_err-push_char_ranges c = search rules

pub returns-then-not-branch : goal.returns-then-not-branch
returns-then-not-branch c = grind (arith, common_steps)

pub loop-branch-smaller : goal.loop-branch-smaller
loop-branch-smaller c = search rules

pub loop-branch-preserved : goal.loop-branch-preserved
loop-branch-preserved c = grind (arith, common_steps)

pub returns : goal.returns
returns c = grind (arith, common_steps)
