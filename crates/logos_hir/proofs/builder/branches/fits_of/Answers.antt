use Rattle.logos_hir.proofs.tree.BranchLemmas.{others_unfit}
use Rattle.logos_hir.proofs.builder.branches.fits_of.Goals as goal

pub returns-in_default : goal.returns-in_default
returns-in_default c = others_unfit c.args.branch.now c.requires c.in_default.not-Class c.in_default.not-Literal
