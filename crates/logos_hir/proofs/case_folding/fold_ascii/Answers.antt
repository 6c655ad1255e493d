use Rattle.std.proofs.Common.{◌≡◌, ◌||◌, IfOk, ap, ap₂, subst, ◌∙◌}
use Rattle.logos_hir.specs.Hir.{pairs}
use Rattle.logos_hir.specs.Sets.{Set, members, in_ranges}
use Rattle.logos_hir.specs.RangeSets.{set_of}
use Rattle.logos_hir.specs.inside.FoldSteps.{shift}
use Rattle.logos_hir.proofs.lemmas.FoldLemmas.{cased_members}
use Rattle.logos_hir.proofs.case_folding.fold_ascii.Goals as goal

pub returns : goal.returns
returns c =
    let own = c.args.set.now.ranges.items in
    let old = c.in_ok-ranges.ensures.items ∙ c.ranges-2.ensures in
    let all = cased_members (pairs own) (pairs c.push_cases.new.out.items)
    (λ x. c.in_ok-push_cases.ensures x ∙ ap₂ (λ ys rs. in_ranges (pairs ys) x || (shift 65 90 97 (in_ranges (pairs rs)) x || shift 97 122 65 (in_ranges (pairs rs)) x)) old c.ranges-3.ensures) in
    let same = ap (λ rs. members (pairs rs)) c.deref.ensures.value ∙ all in
    subst (λ (s : Set). IfOk c.from_ranges.result (λ set. set_of set ≡ s)) same c.from_ranges.ensures
