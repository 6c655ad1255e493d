use Rattle.std.proofs.Common.{length}
use Rattle.logos_syntax.specs.inside.GroupsView.{state_view}
use Rattle.logos_syntax.specs.inside.Reading.{HasRead}
use Rattle.logos_syntax.proofs.parser.run.Given as goal

abbrev pub invariant-loop-rest : goal.invariant-loop-rest
invariant-loop-rest l = HasRead l.fn.flags l.fn.text l.rest (state_view l.parser.groups) l.parser.names

abbrev pub decreases-loop-rest : goal.decreases-loop-rest
decreases-loop-rest l = length l.rest
