use Rattle.std.proofs.Common.{arith, ◌≡◌, OnOk, IfOk, ◌&&◌, append-nil, append_assoc, drop, List, ◌++◌, map, ap, ap₂, sym, subst, ◌∙◌, flat_map}
use Rattle.std.proofs.lemmas.List.{map_push}
use Rattle.logos_hir.specs.Tree.{trees, Tree}
use Rattle.logos_hir.specs.Hir.{tree_of}
use Rattle.logos_hir.specs.Build.{parts_of, in_a_row, branches_of, choice_of}
use Rattle.logos_hir.specs.Simplest.{simplest, all_simplest}
use Rattle.logos_hir.specs.inside.BuildSteps.{add_parts}
use Rattle.logos_hir.specs.inside.Fits.{fits_of}
use Rattle.logos_hir.specs.declared.builder.branches.Fits.{Fits}
use Rattle.logos_hir.proofs.tree.BranchLemmas.{fits-append, branches-push, added_apart, flat_simplest_alone}
use Rattle.logos_hir.proofs.tree.TreeViews.{tree-Concat, tree-Alternation}
use Rattle.logos_hir.proofs.tree.SimplifyLemmas.{inner_parts, junction-is, flat_simplest-push}
use Rattle.logos_hir.proofs.tree.BuildLemmas.{add_parts-append}
use Rattle.logos_hir.proofs.simplifier.+simplify.Goals as goal

pub push_simplified-returns-in-Concat : goal.push_simplified-returns-in-Concat
push_simplified-returns-in-Concat t c =
    let old = map tree_of c.args.parts.now.items in
    let inner = c.in-Concat.inner in
    let e : add_parts old (flat_map parts_of (all_simplest (trees (map tree_of inner.items)))) ≡ add_parts old (parts_of (simplest (tree_of c.args.tree))) =
    inner_parts old (trees (map tree_of inner.items)) ∙ ap (λ x. add_parts old (parts_of (simplest x))) (sym (ap tree_of c.in-Concat.is ∙ tree-Concat inner)) in
    subst (λ (xs : List Tree). OnOk c.push_all_simplified.result (map tree_of c.push_all_simplified.new.parts.items ≡ xs)) e c.push_all_simplified.ensures

pub simplify-returns-in_ok-push_all_simplified-in-Concat :
    goal.simplify-returns-in_ok-push_all_simplified-in-Concat
simplify-returns-in_ok-push_all_simplified-in-Concat t c =
    let all = c.in-Concat.all in
    c.in_a_row.ensures ∙ ap in_a_row (c.in_ok-push_all_simplified-in-Concat.ensures ∙ ap (λ hs. add_parts (map tree_of hs) (flat_map parts_of (all_simplest (trees (map tree_of all.items))))) c.new-parts.ensures.items ∙ junction-is (flat_map parts_of (all_simplest (trees (map tree_of all.items)))))
    ∙ ap simplest (sym (ap tree_of c.in-Concat.is ∙ tree-Concat all))

pub push_all_simplified-loop-tree-preserved : goal.push_all_simplified-loop-tree-preserved
push_all_simplified-loop-tree-preserved t c =
    let old = map tree_of c.args.parts.now.items in
    let yielded = c.loop-tree.yielded in
    let next = c.in-Some.tree in
    c.in_ok-push_simplified.ensures ∙ ap (λ ps. add_parts ps (parts_of (simplest (tree_of next)))) c.loop-tree.invariant
    ∙ sym (ap (λ ts. add_parts old (flat_map parts_of (all_simplest (trees ts)))) (map_push tree_of yielded next)
    ∙ ap (add_parts old) (flat_simplest-push parts_of (map tree_of yielded) (tree_of next))
    ∙ add_parts-append old (flat_map parts_of (all_simplest (trees (map tree_of yielded)))) (parts_of (simplest (tree_of next))))

pub push_simplified_branch-push_fitting-requires : goal.push_simplified_branch-push_fitting-requires
push_simplified_branch-push_fitting-requires t c = (tree_of c.args.tree, sym c.in_ok-simplify-in_default.ensures)

pub push_simplified_branch-join_class-requires : goal.push_simplified_branch-join_class-requires
push_simplified_branch-join_class-requires t c =
    let inner = c.in-Alternation.inner in
    let made = c.in_ok-fits-in-Alternation.ensures in
    let added = flat_map branches_of (all_simplest (trees (map tree_of inner.items))) in
    let at = added_apart c.len-from.result c.args.branches.now.items c.push_all_branches.new.branches.items added (omega (arith, c.args.branches.now.ok.0, c.len-from.ensures)) made.items in
    record {
      within = at.0;
      fits = made.fits ∙ ap fits_of (sym at.2);
      alone = λ t' e. flat_simplest_alone (trees (map tree_of inner.items)) t' (sym at.2 ∙ e);
    }

pub push_simplified_branch-returns-in_ok-fits-in-Alternation-clause-items : goal.push_simplified_branch-returns-in_ok-fits-in-Alternation-clause-items
push_simplified_branch-returns-in_ok-fits-in-Alternation-clause-items t c =
    let old = map tree_of c.args.branches.now.items in
    let inner = c.in-Alternation.inner in
    let made = c.in_ok-fits-in-Alternation.ensures in
    let added = flat_map branches_of (all_simplest (trees (map tree_of inner.items))) in
    let at = added_apart c.len-from.result c.args.branches.now.items c.push_all_branches.new.branches.items added (omega (arith, c.args.branches.now.ok.0, c.len-from.ensures)) made.items in
    let e : choice_of (map tree_of (drop c.len-from.result c.push_all_branches.new.branches.items)) ≡ simplest (tree_of c.args.tree) =
    ap choice_of at.2 ∙ ap simplest (sym (ap tree_of c.in-Alternation.is ∙ tree-Alternation inner)) in
    subst (λ (ts : List Tree). OnOk c.join_class.result (map tree_of c.join_class.new.branches.items ≡ ts))
    (ap₂ (λ (ts : List Tree) (t : Tree). ts ++ branches_of t) at.1 e) c.join_class.ensures.items

pub push_simplified_branch-returns-in_ok-fits-in-Alternation-clause-fits : goal.push_simplified_branch-returns-in_ok-fits-in-Alternation-clause-fits
push_simplified_branch-returns-in_ok-fits-in-Alternation-clause-fits t c =
    let inner = c.in-Alternation.inner in
    let made = c.in_ok-fits-in-Alternation.ensures in
    let added = flat_map branches_of (all_simplest (trees (map tree_of inner.items))) in
    let at = added_apart c.len-from.result c.args.branches.now.items c.push_all_branches.new.branches.items added (omega (arith, c.args.branches.now.ok.0, c.len-from.ensures)) made.items in
    let e : choice_of (map tree_of (drop c.len-from.result c.push_all_branches.new.branches.items)) ≡ simplest (tree_of c.args.tree) =
    ap choice_of at.2 ∙ ap simplest (sym (ap tree_of c.in-Alternation.is ∙ tree-Alternation inner)) in
    subst (λ (t : Tree). IfOk c.join_class.result (λ fits. fits ≡ fits_of (branches_of t))) e c.join_class.ensures.fits

pub push_all_branches-loop-tree-init : goal.push_all_branches-loop-tree-init
push_all_branches-loop-tree-init t c = record { items = sym (append-nil _); fits = c.all-fits.ensures }

pub push_all_branches-loop-tree-preserved : goal.push_all_branches-loop-tree-preserved
push_all_branches-loop-tree-preserved t c =
    let old = map tree_of c.args.branches.now.items in
    let yielded = c.loop-tree.yielded in
    let next = c.in-Some.tree in
    let before = flat_map branches_of (all_simplest (trees (map tree_of yielded))) in
    let more = branches_of (simplest (tree_of next)) in
    let e = branches-push yielded next in
    record {
      items = c.in_ok-here.ensures.items ∙ ap (λ (xs : List Tree). xs ++ more) c.loop-tree.invariant.items ∙ append_assoc old before more
          ∙ ap (λ (xs : List Tree). old ++ xs) (sym e);
      fits = c.both-fits.ensures
          ∙ ap₂ (λ (f g : Fits). record { chars = f.chars && g.chars; bytes = f.bytes && g.bytes }) c.loop-tree.invariant.fits c.in_ok-here.ensures.fits
          ∙ sym (fits-append before more) ∙ ap fits_of (sym e);
    }

pub simplify-returns-in_ok-push_all_branches-in-Alternation : goal.simplify-returns-in_ok-push_all_branches-in-Alternation
simplify-returns-in_ok-push_all_branches-in-Alternation t c =
    let all = c.in-Alternation.all in
    let e : map tree_of c.push_all_branches.new.branches.items ≡ flat_map branches_of (all_simplest (trees (map tree_of all.items))) =
    c.in_ok-push_all_branches-in-Alternation.ensures.items ∙ ap (λ hs. map tree_of hs ++ flat_map branches_of (all_simplest (trees (map tree_of all.items)))) c.new-branches.ensures.items in
    subst (λ (x : Tree). IfOk c.choice.result (λ hir. tree_of hir ≡ x))
    (ap choice_of e ∙ ap simplest (sym (ap tree_of c.in-Alternation.is ∙ tree-Alternation all))) c.choice.ensures
