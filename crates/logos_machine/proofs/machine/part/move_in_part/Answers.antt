use Rattle.std.proofs.lemmas.Option.{slice_get-get_or}
use Rattle.logos_code.specs.CodeView.{state_at, no_state}
use Rattle.logos_machine.specs.inside.Attempts.{context_of, status_of}
use Rattle.logos_machine.proofs.StepLemmas.{late_afterward}
use Rattle.logos_machine.proofs.MoveLemmas.{comes_to_end, moves_on}
use Rattle.std.proofs.Common.{sym}
use Rattle.logos_machine.proofs.machine.part.move_in_part.Goals as goal

pub move_at_end-requires-clause-past : goal.move_at_end-requires-clause-past
move_at_end-requires-clause-past c =
    let code = c.args.code.now in
    let stop = c.stop_of-stop in
    let there = slice_get-get_or code.states c.args.at.state no_state c.requires.state in
    comes_to_end code c.args.part.now c.args.start (status_of c.args.at) (state_at code c.args.at.state) there stop.result.offset stop.result.target stop.ensures.offset stop.ensures.target c.in_default.is

pub marked-context-requires : goal.marked-context-requires
marked-context-requires c =
    let code = c.args.code.now in
    let there = slice_get-get_or code.states c.args.at.state no_state c.requires.state in
    late_afterward code c.args.part.now c.args.start (status_of c.args.at) (state_at code c.args.at.state) there c.requires.second c.stop_of-stop.result.offset c.stop_of-stop.ensures.offset _ (sym c.sign.ensures)

pub returns-in-Some-target : goal.returns-in-Some-target
returns-in-Some-target c =
    let code = c.args.code.now in
    let stop = c.stop_of-stop in
    let there = slice_get-get_or code.states c.args.at.state no_state c.requires.state in
    rw c.in-Some-target.is at (moves_on code c.args.part.now c.args.start (status_of c.args.at) (state_at code c.args.at.state) there stop.result.offset stop.result.target stop.ensures.offset stop.ensures.target
    c.in-Some.target (context_of c.marked-context.result) c.in-Some.is (rw c.sign.ensures at c.marked-context.ensures))

pub returns-in-None : goal.returns-in-None
returns-in-None c =
    let code = c.args.code.now in
    let stop = c.stop_of-stop in
    let there = slice_get-get_or code.states c.args.at.state no_state c.requires.state in
    rw c.in-None.is at (moves_on code c.args.part.now c.args.start (status_of c.args.at) (state_at code c.args.at.state) there stop.result.offset stop.result.target stop.ensures.offset stop.ensures.target
    c.in-Some.target (context_of c.marked-context.result) c.in-Some.is (rw c.sign.ensures at c.marked-context.ensures))
