use Rattle.std.proofs.Common.{◌≡◌, map, ap, ◌∙◌, ◌++◌, sym}
use Rattle.std.proofs.lemmas.List.{map_push}
use Rattle.logos_hir.specs.Hir.{tree_of}
use Rattle.logos_hir.specs.Build.{branches_of}
use Rattle.logos_hir.proofs.tree.TreeViews.{tree-Alternation}
use Rattle.logos_hir.proofs.tree.BuildLemmas.{list_of-trees, branches-other}
use Rattle.logos_hir.proofs.builder.branches.push_branch.Goals as goal

pub returns-in-Alternation : goal.returns-in-Alternation
returns-in-Alternation c =
    let inner = c.in-Alternation.inner in
    let e : branches_of (tree_of c.args.branch) ≡ map tree_of inner.items =
    ap (λ h. branches_of (tree_of h)) c.in-Alternation.is ∙ ap branches_of (tree-Alternation inner) ∙ list_of-trees (map tree_of inner.items) in
    rw e c.push_branches.ensures

pub returns-in_ok-push-in_default : goal.returns-in_ok-push-in_default
returns-in_ok-push-in_default c =
    ap (map tree_of) c.in_ok-push-in_default.ensures.items ∙ map_push tree_of c.args.branches.now.items c.args.branch ∙ ap (λ t. map tree_of c.args.branches.now.items ++ t) (sym (branches-other c.args.branch c.in_default.not-Alternation))
