use Rattle.std.proofs.Common.{◌&&◌, not, nat_le, ap, ◌∙◌}
use Rattle.logos_hir.specs.Hir.{pairs}
use Rattle.logos_hir.specs.Sets.{in_ranges}
use Rattle.logos_hir.proofs.lemmas.RangeLemmas.{AreRanges-from_canonical, sorted-from_canonical, complement_members}
use Rattle.logos_hir.proofs.sets.RangeSet.complement.Goals as goal

pub gaps-requires-clause-ranges : goal.gaps-requires-clause-ranges
gaps-requires-clause-ranges c =
    rw c.deref.ensures.value (AreRanges-from_canonical 0 (pairs c.args.self.now.ranges.items) c.args.self.now.canonical)

pub gaps-requires-clause-sorted : goal.gaps-requires-clause-sorted
gaps-requires-clause-sorted c =
    rw c.deref.ensures.value (sorted-from_canonical 0 c.args.self.now.ranges.items c.args.self.now.canonical)

pub returns : goal.returns
returns c =
    complement_members (pairs c.args.self.now.ranges.items) (pairs c.in_ok-ranges.ranges.items) c.args.last
    (λ x hx. c.in_ok-ranges.ensures.members x hx ∙ ap (λ rs. nat_le x c.args.last && not (in_ranges (pairs rs) x)) c.deref.ensures.value)
