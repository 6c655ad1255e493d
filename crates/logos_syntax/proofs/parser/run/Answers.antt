use Rattle.std.proofs.Common.{rules}
use Rattle.logos_syntax.specs.inside.GroupsView.{state_view}
use Rattle.logos_syntax.specs.inside.Reading.{names_after}
use Rattle.logos_syntax.proofs.patterns.Fronts.{deep_text, ended_is_deep}
use Rattle.logos_syntax.proofs.patterns.Texts.{nothing_read, reads_on, start_some, stopped, ended}
use Rattle.logos_syntax.proofs.brackets.Answered.{empty_text}
use Rattle.logos_syntax.proofs.parser.run.Goals as goal

pub loop-rest-init : goal.loop-rest-init
loop-rest-init c = nothing_read c.args.flags c.args.text.now (state_view c.new-parser.result.groups) c.new-parser.result.names c.new-parser.ensures.groups c.new-parser.ensures.names

pub returns-in-Err-clause-stopped : goal.returns-in-Err-clause-stopped
returns-in-Err-clause-stopped c =
    let i = c.loop-rest.invariant in
    stopped c.args.flags c.args.text.now c.loop-rest.rest.now (state_view c.loop-rest.parser.groups) c.loop-rest.parser.names c.in-Err.stop i (search rules) (c.in-Err.ensures (names_after _ i.tokens) i.has).0

pub returns-in-Err-clause-deep : goal.returns-in-Err-clause-deep
returns-in-Err-clause-deep c =
    let i = c.loop-rest.invariant in
    deep_text c.args.flags c.args.text.now c.loop-rest.rest.now (state_view c.loop-rest.parser.groups) c.loop-rest.parser.names _ c.in-Err.stop i (c.in-Err.ensures (names_after _ i.tokens) i.has).1

pub loop-rest-smaller : goal.loop-rest-smaller
loop-rest-smaller c =
    let i = c.loop-rest.invariant in
    let g = c.in-Ok.ensures (names_after _ i.tokens) i.has in
    start_some g.token c.loop-rest.rest.now c.in-Ok.after.now g.starts

pub loop-rest-preserved : goal.loop-rest-preserved
loop-rest-preserved c =
    let i = c.loop-rest.invariant in
    reads_on c.args.flags c.args.text.now c.loop-rest.rest.now c.in-Ok.after.now (state_view c.loop-rest.parser.groups) _ c.loop-rest.parser.names _ i (c.in-Ok.ensures (names_after _ i.tokens) i.has)

pub returns-clause-found : goal.returns-clause-found
returns-clause-found c = (ended c.args.flags c.args.text.now c.loop-rest.rest.now (state_view c.loop-rest.parser.groups) c.loop-rest.parser.names c.finish.result (empty_text c.loop-rest.rest.now c.loop-rest-test.ensures) c.loop-rest.invariant c.finish.ensures).0

pub returns-clause-stopped : goal.returns-clause-stopped
returns-clause-stopped c = (ended c.args.flags c.args.text.now c.loop-rest.rest.now (state_view c.loop-rest.parser.groups) c.loop-rest.parser.names c.finish.result (empty_text c.loop-rest.rest.now c.loop-rest-test.ensures) c.loop-rest.invariant c.finish.ensures).1

pub returns-clause-deep : goal.returns-clause-deep
returns-clause-deep c = ended_is_deep c.args.flags c.args.text.now (state_view c.loop-rest.parser.groups) c.finish.result c.finish.ensures
