use Rattle.logos_syntax.specs.inside.GroupsView.{state_view}
use Rattle.logos_syntax.proofs.patterns.Fronts.{bracket_is_deep}
use Rattle.logos_syntax.proofs.patterns.Texts.{bracket_stops, bracket_goes}
use Rattle.logos_syntax.proofs.parser.PatternParser.bracket.Goals as goal

pub returns-in-Err : goal.returns-in-Err
returns-in-Err c = λ seen h. (
  bracket_stops (state_view c.args.self.now.groups) seen c.args.inside.now c.flags-flags.result c.depth.result c.in-Err.stop c.flags-flags.ensures c.depth.ensures.depth c.in-Err.ensures.0,
  bracket_is_deep (state_view c.args.self.now.groups) seen c.args.inside.now _ c.flags-flags.result c.depth.result c.in-Err.stop c.flags-flags.ensures c.depth.ensures.depth c.in-Err.ensures.1,
)

pub returns : goal.returns
returns c = λ seen h. bracket_goes (state_view c.args.self.now.groups) (state_view c.class.new.self) seen c.args.self.now.names c.args.inside.now c.in-Ok.found.1.now c.flags-flags.result c.depth.result c.in-Ok.found.0 c.flags-flags.ensures c.depth.ensures.depth h c.in-Ok.ensures c.in_ok-class.ensures
