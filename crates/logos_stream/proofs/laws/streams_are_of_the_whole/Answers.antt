use Rattle.logos_machine.specs.LexerValue.{answers_of}
use Rattle.logos_stream.proofs.WholeLemmas.{streams_are_of_the_whole}
use Rattle.logos_stream.proofs.laws.streams_are_of_the_whole.Goals as goal

pub returns : goal.returns
returns g c = streams_are_of_the_whole g.R.Read.remaining (answers_of g.C.Fn c.args.callback.now)
