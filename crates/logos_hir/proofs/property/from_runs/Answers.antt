use Rattle.std.proofs.Common.{◌≡◌, IfOk, ap, subst, ◌∙◌}
use Rattle.logos_hir.specs.Hir.{pairs}
use Rattle.logos_hir.specs.Sets.{Set, members}
use Rattle.logos_hir.specs.RangeSets.{set_of}
use Rattle.logos_hir.proofs.lemmas.PropertyLemmas.{members_of_runs}
use Rattle.logos_hir.proofs.property.from_runs.Goals as goal

pub returns : goal.returns
returns c = λ p h.
    let same = ap (λ rs. members (pairs rs)) c.deref.ensures.value ∙ ap members c.in_ok-ranges_of.ensures ∙ members_of_runs c.args.runs.now p h in
    subst (λ (s : Set). IfOk c.from_ranges.result (λ set. set_of set ≡ s)) same c.from_ranges.ensures
