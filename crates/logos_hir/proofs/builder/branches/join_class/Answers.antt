use Rattle.std.proofs.Common.{arith, ◌≡◌, ◌||◌, ◌++◌, ◌∷◌, [], List, map, drop, ap, ap₂, sym, ◌∙◌, subst}
use Rattle.std.proofs.lemmas.List.{map_push}
use Rattle.logos_hir.specs.Tree.{Tree}
use Rattle.logos_hir.specs.Hir.{tree_of}
use Rattle.logos_hir.specs.Build.{branches_of, chars_or, choice_of, all_ranges, char_ranges_of}
use Rattle.logos_hir.specs.inside.Fits.{fits_of}
use Rattle.logos_hir.proofs.tree.BuildLemmas.{not_one_branch}
use Rattle.logos_hir.proofs.tree.BranchLemmas.{IsClassMade, class_made, unfit_stay, is_alone, not_alone, alone_stays, all_stay}
use Rattle.logos_hir.proofs.builder.branches.join_class.Goals as goal

pub returns-then-len-from-eq1-clause-items : goal.returns-then-len-from-eq1-clause-items
returns-then-len-from-eq1-clause-items c =
    let all = c.args.branches.now.items in
    let one = is_alone c.args.from c.len.result all (omega (arith, c.args.branches.now.ok.0, c.len.ensures)) c.if-len-from-eq1.true in
    all_stay c.args.from all (alone_stays (map tree_of (drop c.args.from all)) one c.requires.alone)

pub returns-then-len-from-eq1-clause-fits : goal.returns-then-len-from-eq1-clause-fits
returns-then-len-from-eq1-clause-fits c =
    let all = c.args.branches.now.items in
    let one = is_alone c.args.from c.len.result all (omega (arith, c.args.branches.now.ok.0, c.len.ensures)) c.if-len-from-eq1.true in
    c.requires.fits ∙ ap fits_of (sym (alone_stays (map tree_of (drop c.args.from all)) one c.requires.alone))

pub returns-then-not-fits-clause-items : goal.returns-then-not-fits-clause-items
returns-then-not-fits-clause-items c =
    let all = c.args.branches.now.items in
    let many = not_alone c.args.from c.len.result all (omega (arith, c.args.branches.now.ok.0, c.len.ensures)) c.if-len-from-eq1.false in
    let none = ap (λ f. f.chars || f.bytes) (sym c.requires.fits) ∙ c.if-not-fits.true in
    all_stay c.args.from all (unfit_stay (map tree_of (drop c.args.from all)) many none)

pub returns-then-not-fits-clause-fits : goal.returns-then-not-fits-clause-fits
returns-then-not-fits-clause-fits c =
    let all = c.args.branches.now.items in
    let many = not_alone c.args.from c.len.result all (omega (arith, c.args.branches.now.ok.0, c.len.ensures)) c.if-len-from-eq1.false in
    let none = ap (λ f. f.chars || f.bytes) (sym c.requires.fits) ∙ c.if-not-fits.true in
    c.requires.fits ∙ ap fits_of (sym (unfit_stay (map tree_of (drop c.args.from all)) many none))

pub fits_of-fits-requires : goal.fits_of-fits-requires
fits_of-fits-requires c =
    let ts = map tree_of (drop c.args.from c.args.branches.now.items) in
    let some = ap (λ f. f.chars || f.bytes) (sym c.requires.fits) ∙ c.if-not-fits.false in
    let e : tree_of c.in_ok-class.class ≡ chars_or ts (all_ranges char_ranges_of ts) =
    c.in_ok-class.ensures ∙ ap (λ hs. chars_or (map tree_of hs) (all_ranges char_ranges_of (map tree_of hs))) c.in_ok-added.ensures.tail in
    (subst IsClassMade (sym e) (class_made ts some)).1

pub returns-clause-items : goal.returns-clause-items
returns-clause-items c =
    let all = c.args.branches.now.items in
    let ts = map tree_of (drop c.args.from all) in
    let many = not_alone c.args.from c.len.result all (omega (arith, c.args.branches.now.ok.0, c.len.ensures)) c.if-len-from-eq1.false in
    let some = ap (λ f. f.chars || f.bytes) (sym c.requires.fits) ∙ c.if-not-fits.false in
    let e : tree_of c.in_ok-class.class ≡ chars_or ts (all_ranges char_ranges_of ts) =
    c.in_ok-class.ensures ∙ ap (λ hs. chars_or (map tree_of hs) (all_ranges char_ranges_of (map tree_of hs))) c.in_ok-added.ensures.tail in
    let only : branches_of (choice_of ts) ≡ tree_of c.in_ok-class.class ∷ [] =
    ap branches_of (sym (not_one_branch ts many)) ∙ (class_made ts some).0 ∙ ap (λ (t : Tree). t ∷ []) (sym e) in
    ap (map tree_of) c.in_ok-push.ensures.items ∙ map_push tree_of c.split_off.new.self.items c.in_ok-class.class
    ∙ ap₂ (λ (hs : List Tree) (ts : List Tree). hs ++ ts) (ap (map tree_of) c.in_ok-added.ensures.items) (sym only)

pub returns-clause-fits : goal.returns-clause-fits
returns-clause-fits c =
    let all = c.args.branches.now.items in
    let ts = map tree_of (drop c.args.from all) in
    let many = not_alone c.args.from c.len.result all (omega (arith, c.args.branches.now.ok.0, c.len.ensures)) c.if-len-from-eq1.false in
    let e : tree_of c.in_ok-class.class ≡ choice_of ts =
    c.in_ok-class.ensures ∙ ap (λ hs. chars_or (map tree_of hs) (all_ranges char_ranges_of (map tree_of hs))) c.in_ok-added.ensures.tail
    ∙ not_one_branch ts many in
    c.fits_of-fits.ensures ∙ ap (λ t. fits_of (branches_of t)) e
