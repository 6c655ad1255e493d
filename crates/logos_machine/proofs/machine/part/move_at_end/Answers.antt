use Rattle.std.proofs.Common.{inl, inr, arith}
use Rattle.std.proofs.lemmas.Option.{slice_get-get_or}
use Rattle.logos_code.specs.CodeView.{state_at, no_state}
use Rattle.logos_machine.specs.Streams.{looks_here}
use Rattle.logos_machine.specs.inside.Attempts.{context_of, status_of}
use Rattle.logos_machine.proofs.MoveLemmas.{acts_closed, past_mark}
use Rattle.logos_machine.proofs.machine.part.move_at_end.Goals as goal

pub returns-then-at-start : goal.returns-then-at-start
returns-then-at-start c =
    let code = c.args.code.now in
    let there = slice_get-get_or code.states c.args.at.state no_state c.requires.status.state in
    looks_here (status_of c.args.at) (state_at code c.args.at.state) there c.requires.past (inl (omega (arith, c.if-at-start.true)))

pub marked-context-requires : goal.marked-context-requires
marked-context-requires c = past_mark _ c.args.at.offset (omega (arith, c.if-at-start.false))

pub returns-then-is_closed : goal.returns-then-is_closed
returns-then-is_closed c =
    let code = c.args.code.now in
    let there = slice_get-get_or code.states c.args.at.state no_state c.requires.status.state in
    acts_closed code c.args.part.now c.args.start (status_of c.args.at) (state_at code c.args.at.state) (context_of c.marked-context.result) there c.if-is_closed.ensures
    (omega (arith, c.if-at-start.false)) (rw c.sign.ensures at c.marked-context.ensures)

pub returns : goal.returns
returns c =
    let code = c.args.code.now in
    let there = slice_get-get_or code.states c.args.at.state no_state c.requires.status.state in
    looks_here (status_of c.args.at) (state_at code c.args.at.state) there c.requires.past (inr c.if-is_closed.ensures)
