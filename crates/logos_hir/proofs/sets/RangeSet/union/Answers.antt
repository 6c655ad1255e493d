use Rattle.std.proofs.Common.{◌≡◌, ◌++◌, IfOk, ap, subst, ◌∙◌, rules}
use Rattle.std.proofs.lemmas.List.{map-append}
use Rattle.logos_hir.specs.declared.hir.Range.{Range}
use Rattle.logos_hir.specs.Hir.{pairs}
use Rattle.logos_hir.specs.Sets.{Set, members}
use Rattle.logos_hir.specs.RangeSets.{set_of}
use Rattle.logos_hir.proofs.lemmas.RangeLemmas.{union_members}
use Rattle.logos_hir.proofs.sets.RangeSet.union.Goals as goal

pub returns : goal.returns
returns c =
    let both : c.extend_from_slice.new.self.items ≡ c.args.self.now.ranges.items ++ c.args.other.now.ranges.items = search rules in
    let all : c.deref-3.result.now ≡ c.extend_from_slice.new.self.items = c.deref-3.ensures.value in
    let same = ap (λ xs. members (pairs xs)) (all ∙ both)
    ∙ ap members (map-append (λ (r : Range). (r.first, r.last)) c.args.self.now.ranges.items c.args.other.now.ranges.items)
    ∙ union_members (pairs c.args.self.now.ranges.items) (pairs c.args.other.now.ranges.items) in
    subst (λ (s : Set). IfOk c.from_ranges.result (λ set. set_of set ≡ s)) same c.from_ranges.ensures
