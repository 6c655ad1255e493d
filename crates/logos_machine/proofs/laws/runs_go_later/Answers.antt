use Rattle.logos_machine.specs.LexerValue.{answers_of}
use Rattle.logos_machine.proofs.LaterLemmas.{runs_go_later}
use Rattle.logos_machine.proofs.laws.runs_go_later.Goals as goal

pub returns : goal.returns
returns g c = runs_go_later (answers_of g.C.Fn c.args.callback.now)
