use Rattle.std.proofs.Common.{ap, ◌∙◌}
use Rattle.logos_hir.specs.Simplest.{simplest}
use Rattle.logos_hir.proofs.tree.SimplifyLemmas.{simplest_row}
use Rattle.logos_hir.proofs.simplifier.row.Goals as goal

pub returns : goal.returns
returns c = ap simplest c.in_a_row.ensures ∙ simplest_row c.args.parts.items
