use Rattle.logos_generator.proofs.InOrder.{parted}
use Rattle.logos_machine.specs.LexerValue.{answers_of}
use Rattle.logos_generator.proofs.laws.items_part_the_input.Goals as goal

pub returns : goal.returns
returns g c = λ rules utf8 bytes from items inside run. parted rules (answers_of g.C.Fn c.args.callback.now) utf8 bytes inside run
