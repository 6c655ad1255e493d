use Rattle.std.proofs.Common.{◌≡◌, IfOk, ap, subst, ◌∙◌}
use Rattle.logos_hir.specs.Hir.{pairs}
use Rattle.logos_hir.specs.Sets.{Set, intersection}
use Rattle.logos_hir.specs.RangeSets.{set_of}
use Rattle.logos_hir.proofs.lemmas.RangeLemmas.{difference_by_complement}
use Rattle.logos_hir.proofs.sets.RangeSet.difference.Goals as goal

pub returns : goal.returns
returns c =
    let same = ap (intersection (set_of c.args.self.now)) c.in_ok-complement.ensures
    ∙ difference_by_complement (pairs c.args.self.now.ranges.items) (pairs c.args.other.now.ranges.items) in
    subst (λ (s : Set). IfOk c.intersection.result (λ set. set_of set ≡ s)) same c.intersection.ensures
