use Rattle.logos_machine.specs.LexerValue.{answers_of}
use Rattle.logos_stream.proofs.LeftLemmas.{all_are_of_the_whole}
use Rattle.logos_stream.proofs.laws.all_items_are_of_the_whole.Goals as goal

pub returns : goal.returns
returns g c = all_are_of_the_whole g.R.Read.remaining (answers_of g.C.Fn c.args.callback.now)
