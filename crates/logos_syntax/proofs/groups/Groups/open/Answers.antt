use Rattle.std.proofs.Common.{map, refl, arith}
use Rattle.std.proofs.lemmas.List.{length-map, length-reverse}
use Rattle.logos_syntax.specs.inside.GroupsView.{group_view}
use Rattle.logos_syntax.proofs.groups.Groups.open.Goals as goal

pub returns-then-len-ge-MAX_NESTING : goal.returns-then-len-ge-MAX_NESTING
returns-then-len-ge-MAX_NESTING c =
    let below = c.args.self.now.below in
    (tt, (_, refl, omega (arith, length-reverse (map group_view below.items), length-map below.items group_view, below.ok.0, c.len.ensures, c.if-len-ge-MAX_NESTING.true)))
