use Rattle.std.proofs.Common.{ap, ◌∙◌, ◌++◌}
use Rattle.std.proofs.lemmas.List.{map-append}
use Rattle.logos_hir.specs.declared.hir.Range.{Range}
use Rattle.logos_hir.specs.Hir.{pairs}
use Rattle.logos_hir.specs.Sets.{members}
use Rattle.logos_hir.proofs.lemmas.RangeLemmas.{union_members}
use Rattle.logos_syntax.proofs.bracket.translation.push_set.Goals as goal

pub returns : goal.returns
returns c =
    let old = c.args.ranges.now.items in
    let new = c.args.set.now.ranges.items in
    ap (λ xs. members (pairs xs)) (c.in_ok-extend_from_slice.ensures.items ∙ ap (λ xs. old ++ xs) c.ranges-2.ensures)
    ∙ ap members (map-append (λ (r : Range). (r.first, r.last)) old new) ∙ union_members (pairs old) (pairs new)
