use Rattle.std.proofs.Common.{◌||◌, ◌+◌, ◌∙◌, ap, sym, drop, get_or}
use Rattle.std.proofs.lemmas.List.{at_drop_more, at_drop_all}
use Rattle.unicode.specs.CaseFolding.{fold_pairs}
use Rattle.logos_hir.specs.Hir.{pairs}
use Rattle.logos_hir.specs.Sets.{in_range, in_ranges}
use Rattle.logos_hir.specs.inside.FoldSteps.{in_image}
use Rattle.logos_hir.proofs.lemmas.RangeLemmas.{or_false}
use Rattle.logos_hir.proofs.lemmas.FoldLemmas.{fold_pairs_sorted, folds_step, image_none}
use Rattle.logos_hir.proofs.case_folding.push_folds.Goals as goal

pub within-requires : goal.within-requires
within-requires c = rw c.fold_pairs-table.ensures.table fold_pairs_sorted

pub loop-range-preserved : goal.loop-range-preserved
loop-range-preserved c = λ x.
    let xs = c.args.ranges.now in
    let i = c.loop-range.range-index in
    let r = get_or xs i (record { first = 0; last = 0 }) in
    let out = in_ranges (pairs c.loop-range.out.items) x in
    folds_step out _ fold_pairs (r.first, r.last) (pairs (drop (i + 1) xs)) x
    (c.in_ok-push_values.ensures x ∙ ap (λ b. out || b) (c.within.ensures x ∙ ap (λ t. in_image t (in_range (r.first, r.last)) x) c.fold_pairs-table.ensures.table))
    ∙ ap (λ b. out || b) (sym (at_drop_more (λ ys. in_image fold_pairs (in_ranges (pairs ys)) x) xs i (record { first = 0; last = 0 }) c.loop-range-test.true))
    ∙ c.loop-range.invariant x

pub returns : goal.returns
returns c = λ x.
    let out = in_ranges (pairs c.loop-range.out.items) x in
    sym (ap (λ b. out || b) (at_drop_all (λ ys. in_image fold_pairs (in_ranges (pairs ys)) x) c.args.ranges.now c.loop-range.range-index c.loop-range-test.false ∙ image_none fold_pairs x) ∙ or_false out)
    ∙ c.loop-range.invariant x
