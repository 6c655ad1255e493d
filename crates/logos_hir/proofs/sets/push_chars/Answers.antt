use Rattle.std.proofs.Common.{◌||◌, ◌&&◌, ◌∙◌, ap, ap₂}
use Rattle.logos_hir.specs.Hir.{pairs}
use Rattle.logos_hir.specs.Sets.{in_ranges}
use Rattle.logos_hir.proofs.lemmas.RangeLemmas.{pairs-push, in_ranges-push}
use Rattle.logos_hir.proofs.sets.push_chars.Goals as goal

pub returns-clause-members : goal.returns-clause-members
returns-clause-members c = λ x hx.
    ap (λ rs. in_ranges (pairs rs) x) c.in_ok-push.ensures.items
    ∙ ap (λ rs. in_ranges rs x) (pairs-push _ _)
    ∙ in_ranges-push _ _ x
    ∙ ap (λ b. in_ranges (pairs c.args.out.now.items) x || b) (ap₂ ◌&&◌ (c.first_char-first.ensures.same x hx) (c.last_char-last.ensures.same x hx))
