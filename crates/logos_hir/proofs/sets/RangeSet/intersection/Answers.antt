use Rattle.std.proofs.Common.{◌≡◌, IfOk, ap, ap₂, subst, ◌∙◌}
use Rattle.logos_hir.specs.Hir.{pairs}
use Rattle.logos_hir.specs.Sets.{Set, union, complement}
use Rattle.logos_hir.specs.RangeSets.{set_of}
use Rattle.logos_hir.proofs.lemmas.RangeLemmas.{intersection_by_complements}
use Rattle.logos_hir.proofs.sets.RangeSet.intersection.Goals as goal

pub returns : goal.returns
returns c =
    let same = ap (complement 0x10_FFFF) (c.in_ok-outside.ensures ∙ ap₂ union c.in_ok-complement.ensures c.in_ok-complement-2.ensures)
    ∙ intersection_by_complements (pairs c.args.self.now.ranges.items) (pairs c.args.other.now.ranges.items) in
    subst (λ (s : Set). IfOk c.complement-3.result (λ set. set_of set ≡ s)) same c.complement-3.ensures
