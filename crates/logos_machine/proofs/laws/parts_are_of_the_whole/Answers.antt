use Rattle.logos_machine.specs.LexerValue.{answers_of}
use Rattle.logos_machine.proofs.PartLemmas.{parts_are_of_the_whole}
use Rattle.logos_machine.proofs.laws.parts_are_of_the_whole.Goals as goal

pub returns : goal.returns
returns g c = parts_are_of_the_whole (answers_of g.C.Fn c.args.callback.now)
