use Rattle.std.proofs.Common.{◌≡◌, map, ap, ◌∙◌}
use Rattle.logos_hir.specs.Hir.{tree_of}
use Rattle.logos_hir.specs.Build.{parts_of}
use Rattle.logos_hir.proofs.tree.TreeViews.{tree-Concat}
use Rattle.logos_hir.proofs.tree.BuildLemmas.{list_of-trees}
use Rattle.logos_hir.proofs.builder.push_flat.Goals as goal

pub returns-in-Concat : goal.returns-in-Concat
returns-in-Concat c =
    let before = map tree_of c.args.parts.now.items in
    let inner = c.in-Concat.inner in
    let e : parts_of (tree_of c.args.part) ≡ map tree_of inner.items =
    ap (λ h. parts_of (tree_of h)) c.in-Concat.is ∙ ap parts_of (tree-Concat inner) ∙ list_of-trees (map tree_of inner.items) in
    rw e c.push_all.ensures
