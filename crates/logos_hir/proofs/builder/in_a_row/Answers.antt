use Rattle.std.proofs.Common.{◌<◌, map, ◌∙◌, length, arith}
use Rattle.std.proofs.lemmas.List.{length-map}
use Rattle.logos_hir.specs.Hir.{tree_of}
use Rattle.logos_hir.proofs.tree.TreeViews.{tree-Concat}
use Rattle.logos_hir.proofs.tree.BuildLemmas.{many_parts}
use Rattle.logos_hir.proofs.builder.in_a_row.Goals as goal

pub returns-then-len-gt1 : goal.returns-then-len-gt1
returns-then-len-gt1 c =
    let several : 1 < length (map tree_of c.args.parts.items) = omega (arith, length-map c.args.parts.items tree_of, c.if-len-gt1.true, c.len.ensures) in
    tree-Concat c.args.parts ∙ many_parts _ several
