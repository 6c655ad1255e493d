use Rattle.std.proofs.Common.{rules, arith}
use Rattle.std.proofs.lemmas.Grind.{common_steps}
use Rattle.logos_hir.proofs.property.spells.Goals as goal

pub returns-then-name-word : goal.returns-then-name-word
returns-then-name-word c = search rules

pub loop-i-init : goal.loop-i-init
loop-i-init c = search rules

pub offset_bounds-name-i : goal.offset_bounds-name-i
offset_bounds-name-i c = search rules

pub bounds-name-i : goal.bounds-name-i
bounds-name-i c = search rules

pub bounds-word-i : goal.bounds-word-i
bounds-word-i c = search rules

pub returns-then-name-i : goal.returns-then-name-i
returns-then-name-i c = grind (arith, common_steps)

pub loop-i-smaller : goal.loop-i-smaller
loop-i-smaller c = search rules

pub loop-i-preserved : goal.loop-i-preserved
loop-i-preserved c = grind (arith, common_steps)

pub returns : goal.returns
returns c = grind (arith, common_steps)
