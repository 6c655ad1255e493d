use Rattle.logos_syntax.specs.inside.GroupsView.{state_view, group_view}
use Rattle.logos_syntax.proofs.patterns.Depth.{repeat_steps}
use Rattle.logos_syntax.proofs.groups.Groups.repeat.Goals as goal

pub returns : goal.returns
returns c = repeat_steps (state_view c.args.self.now) c.args.op c.repeat.result (group_view c.repeat.new.self) c.repeat.ensures
