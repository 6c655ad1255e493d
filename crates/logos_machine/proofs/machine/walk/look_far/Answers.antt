use Rattle.std.proofs.Common.{◌/◌, arith}
use Rattle.logos_code.specs.CodeView.{state_at}
use Rattle.logos_machine.proofs.WalkLemmas.{loop_named, stays_test, looks_end, looks_byte}
use Rattle.logos_machine.proofs.machine.walk.look_far.Goals as goal

pub stop-stop-requires-clause-test : goal.stop-stop-requires-clause-test
stop-stop-requires-clause-test c =
    loop_named c.args.code.now (c.args.row_start / 272) _ c.requires.sound c.requires.row_start.1 (stays_test c.args.code.now (state_at c.args.code.now (c.args.row_start / 272)) _ c.args.entry c.requires.entry c.requires.stays).1

pub returns-then-stop-input : goal.returns-then-stop-input
returns-then-stop-input c =
    looks_end c.args.code.now c.requires.sound c.args.input.now (c.args.row_start / 272) c.requires.row_start.1 c.args.at c.args.entry c.stop-stop.result c.requires.at c.requires.entry c.requires.stays c.stop-stop.ensures
    c.last_entry.result c.if-stop-input.true c.last_entry.ensures

pub returns : goal.returns
returns c =
    looks_byte c.args.code.now c.requires.sound c.args.input.now (c.args.row_start / 272) c.requires.row_start.1 c.args.at c.args.entry c.stop-stop.result c.requires.at c.requires.entry c.requires.stays c.stop-stop.ensures
    c.entry.result (omega (arith, c.if-stop-input.false)) c.entry.ensures
