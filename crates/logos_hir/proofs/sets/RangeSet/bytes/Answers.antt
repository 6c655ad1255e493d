use Rattle.std.proofs.Common.{◌≡◌, IfOk, ap, subst, ◌∙◌}
use Rattle.logos_hir.specs.Hir.{pairs}
use Rattle.logos_hir.specs.Sets.{Set, complement}
use Rattle.logos_hir.specs.RangeSets.{set_of}
use Rattle.logos_hir.proofs.lemmas.RangeLemmas.{bytes_by_complements}
use Rattle.logos_hir.proofs.sets.RangeSet.bytes.Goals as goal

pub returns : goal.returns
returns c =
    let same = ap (complement 255) c.in_ok-complement.ensures ∙ bytes_by_complements (pairs c.args.self.now.ranges.items) in
    subst (λ (s : Set). IfOk c.complement-2.result (λ set. set_of set ≡ s)) same c.complement-2.ensures
