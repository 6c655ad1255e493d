use Rattle.std.proofs.Common.{◌≤◌, length, ap, ◌∙◌, arith}
use Rattle.logos_hir.specs.Simplest.{simplest}
use Rattle.logos_hir.proofs.tree.TreeViews.{tree-Alternation}
use Rattle.logos_hir.proofs.tree.SimplifyLemmas.{simplest_branches, sole_branch}
use Rattle.logos_hir.proofs.simplifier.either.Goals as goal

pub returns-then-len-gt1 : goal.returns-then-len-gt1
returns-then-len-gt1 c = ap simplest (tree-Alternation c.args.branches) ∙ simplest_branches c.args.branches.items

pub returns-in-Some : goal.returns-in-Some
returns-in-Some c =
    let few : length c.args.branches.items ≤ 1 = omega (arith, c.if-len-gt1.false, c.len.ensures) in
    sole_branch c.args.branches.items c.pop.new.self.items c.in-Some.only c.in-Some.ensures.items few
