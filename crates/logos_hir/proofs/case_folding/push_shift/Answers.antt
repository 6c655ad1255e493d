use Rattle.std.proofs.Common.{◌||◌, ◌∙◌, ap}
use Rattle.logos_hir.specs.Hir.{pairs}
use Rattle.logos_hir.specs.Sets.{in_ranges}
use Rattle.logos_hir.proofs.lemmas.RangeLemmas.{pairs-push, in_ranges-push}
use Rattle.logos_hir.proofs.lemmas.FoldLemmas.{moved_range}
use Rattle.logos_hir.proofs.case_folding.push_shift.Goals as goal

pub returns : goal.returns
returns c = λ x.
    ap (λ rs. in_ranges (pairs rs) x) c.in_ok-push.ensures.items
    ∙ ap (λ rs. in_ranges rs x) (pairs-push _ _)
    ∙ in_ranges-push _ _ x
    ∙ ap (λ b. in_ranges (pairs c.args.out.now.items) x || b)
    (moved_range (c.args.range.first, c.args.range.last) c.args.first c.args.last c.args.to c.max-start.result c.min-end.result x
    c.max-start.ensures c.min-end.ensures c.if-start-end.false c.requires.order)
