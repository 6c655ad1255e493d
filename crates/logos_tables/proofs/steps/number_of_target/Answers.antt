use Rattle.logos_code.specs.CodeView.{no_state, state_at}
use Rattle.logos_code.proofs.RowLemmas.{target_named}
use Rattle.logos_tables.proofs.steps.number_of_target.Goals as goal

pub led_number-requires : goal.led_number-requires
led_number-requires c =
    let sound = rw c.parts.ensures.is at c.parts.ensures.valid.sound in
    rw c.parts.ensures.is (target_named c.args.code.now (state_at c.args.code.now c.args.state).fork c.args.byte c.target.result (sound.states c.args.state no_state c.requires).fork c.target.ensures)
