use Rattle.std.proofs.Common.{◌&&◌, not, nat_le, ap, ◌∙◌, rules}
use Rattle.std.proofs.lemmas.List.Sorted.{IsNonDecreasingBy-from_sort_by_key}
use Rattle.logos_hir.specs.declared.hir.Range.{Range}
use Rattle.logos_hir.specs.Hir.{pairs}
use Rattle.logos_hir.specs.Sets.{in_ranges}
use Rattle.logos_hir.proofs.lemmas.RangeLemmas.{AreRanges-from_canonical, sorted-from_canonical, AreRanges-permutation, in_ranges-permutation, members_are, twice_left_out}
use Rattle.logos_hir.proofs.sets.RangeSet.from_ranges.Goals as goal

pub gaps-requires-clause-ranges : goal.gaps-requires-clause-ranges
gaps-requires-clause-ranges c =
    rw c.deref.ensures.value (AreRanges-permutation _ _ c.sort_unstable_by_key.ensures.permutation c.in_ok-parts.ensures.ranges)

pub gaps-requires-clause-sorted : goal.gaps-requires-clause-sorted
gaps-requires-clause-sorted c =
    rw c.deref.ensures.value
    (IsNonDecreasingBy-from_sort_by_key (λ (r : Range). r.first) _ c.sort_unstable_by_key.ensures.sorted (λ a r q k. search rules))

pub gaps-requires-2-clause-ranges : goal.gaps-requires-2-clause-ranges
gaps-requires-2-clause-ranges c =
    rw c.deref-2.ensures.value (AreRanges-from_canonical 0 (pairs c.in_ok-outside.outside.items) c.in_ok-outside.ensures.canonical)

pub gaps-requires-2-clause-sorted : goal.gaps-requires-2-clause-sorted
gaps-requires-2-clause-sorted c =
    rw c.deref-2.ensures.value (sorted-from_canonical 0 c.in_ok-outside.outside.items c.in_ok-outside.ensures.canonical)

pub returns : goal.returns
returns c =
    members_are (pairs c.in_ok-ranges.ranges.items) (in_ranges (pairs c.args.ranges.now))
    (λ x hx.
    c.in_ok-ranges.ensures.members x hx
    ∙ ap (λ rs. nat_le x 0x10_FFFF && not (in_ranges (pairs rs) x)) c.deref-2.ensures.value
    ∙ ap (λ b. nat_le x 0x10_FFFF && not b) (c.in_ok-outside.ensures.members x hx)
    ∙ ap (λ rs. nat_le x 0x10_FFFF && not (nat_le x 0x10_FFFF && not (in_ranges (pairs rs) x))) c.deref.ensures.value
    ∙ twice_left_out x _ hx
    ∙ in_ranges-permutation _ _ x c.sort_unstable_by_key.ensures.permutation
    ∙ c.in_ok-parts.ensures.members x hx)
