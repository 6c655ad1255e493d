use Rattle.std.proofs.Common.{◌||◌, ◌∙◌, ap, sym, drop, get_or, ◌+◌}
use Rattle.std.proofs.lemmas.List.{at_drop_more}
use Rattle.logos_hir.specs.Hir.{pairs}
use Rattle.logos_hir.specs.Sets.{in_ranges}
use Rattle.logos_hir.specs.inside.FoldSteps.{in_values}
use Rattle.logos_hir.proofs.lemmas.RangeLemmas.{pairs-push, in_ranges-push}
use Rattle.logos_hir.proofs.lemmas.FoldLemmas.{values_step}
use Rattle.logos_hir.proofs.case_folding.push_values.Goals as goal

pub loop-value-preserved : goal.loop-value-preserved
loop-value-preserved c = λ x.
    let xs = c.args.table.now in
    let i = c.loop-value.value-index in
    let out = in_ranges (pairs c.loop-value.out.items) x in
    values_step out _ (in_values (drop (i + 1) xs) x) (get_or xs i (0, 0)).1 x
    (ap (λ rs. in_ranges (pairs rs) x) c.in_ok-push.ensures.items ∙ ap (λ rs. in_ranges rs x) (pairs-push _ _) ∙ in_ranges-push _ _ x)
    ∙ ap (λ b. out || b) (sym (at_drop_more (λ ys. in_values ys x) xs i (0, 0) c.loop-value-test.true))
    ∙ c.loop-value.invariant x
