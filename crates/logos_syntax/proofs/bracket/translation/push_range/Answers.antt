use Rattle.std.proofs.Common.{ap, ◌∙◌, [], ◌∷◌}
use Rattle.logos_hir.specs.Hir.{pairs}
use Rattle.logos_hir.specs.Sets.{members}
use Rattle.logos_hir.proofs.lemmas.RangeLemmas.{union_members, pairs-push}
use Rattle.logos_syntax.proofs.bracket.translation.push_range.Goals as goal

pub returns : goal.returns
returns c =
    let old = c.args.ranges.now.items in
    ap (λ xs. members (pairs xs)) c.in_ok-push.ensures.items ∙ ap members (pairs-push old _) ∙ union_members (pairs old) ((c.args.first, c.args.last) ∷ [])
