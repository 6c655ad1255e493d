use Rattle.std.proofs.Common.{◌≡◌, ap, Some}
use Rattle.std.specs.Option.{option_map}
use Rattle.logos_syntax.specs.inside.GroupsView.{part_view, group_view}
use Rattle.logos_syntax.proofs.patterns.Depth.{repeats_deep}
use Rattle.logos_syntax.proofs.groups.OpenedGroup.repeat.Goals as goal

pub returns-then-part-ge-MAX_NESTING : goal.returns-then-part-ge-MAX_NESTING
returns-then-part-ge-MAX_NESTING c =
    let e : c.args.self.now.last ≡ Some c.in-Some.part = cc in
    repeats_deep (group_view c.args.self.now) c.args.op (option_map part_view c.args.self.now.last) (part_view c.in-Some.part) (ap (option_map part_view) e) c.if-part-ge-MAX_NESTING.true
