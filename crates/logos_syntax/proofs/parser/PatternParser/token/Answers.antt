use Rattle.logos_syntax.specs.inside.GroupsView.{state_view}
use Rattle.logos_syntax.proofs.patterns.Texts.{not_bracket, no_first, other_first}
use Rattle.logos_syntax.proofs.parser.PatternParser.token.Goals as goal

pub returns-in_default : goal.returns-in_default
returns-in_default c = λ seen h.
    not_bracket (state_view c.args.self.now.groups) (state_view c.simple.new.self.groups) seen c.args.text.now c.simple.result c.simple.new.self.names (no_first c.args.text.now c.in_default.len_below) (c.simple.ensures seen h)

pub returns : goal.returns
returns c = λ seen h.
    not_bracket (state_view c.args.self.now.groups) (state_view c.simple-2.new.self.groups) seen c.args.text.now c.simple-2.result c.simple-2.new.self.names
    (other_first c.c-item.result c.args.text.now c.c-item.is c.if-c-eq91.false) (c.simple-2.ensures seen h)
