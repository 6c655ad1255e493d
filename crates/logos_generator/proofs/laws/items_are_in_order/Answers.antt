use Rattle.logos_generator.proofs.InOrder.{in_order}
use Rattle.logos_machine.specs.LexerValue.{answers_of}
use Rattle.logos_generator.proofs.laws.items_are_in_order.Goals as goal

pub returns : goal.returns
returns g c = λ rules utf8 bytes from items inside run. in_order rules (answers_of g.C.Fn c.args.callback.now) utf8 bytes inside run
