use Rattle.logos_code.specs.CodeView.{no_state}
use Rattle.logos_tables.proofs.steps.number_at_end.Goals as goal

pub led_number-requires : goal.led_number-requires
led_number-requires c = rw (c.at_end.ensures, c.parts.ensures.is) ((rw c.parts.ensures.is at c.parts.ensures.valid.sound).states c.args.state no_state c.requires).at_end
