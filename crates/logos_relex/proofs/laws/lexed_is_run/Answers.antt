use Rattle.logos_machine.specs.LexerValue.{answers_of}
use Rattle.logos_relex.proofs.RunLemmas.{lexed_is_run}
use Rattle.logos_relex.proofs.laws.lexed_is_run.Goals as goal

pub returns : goal.returns
returns g c = lexed_is_run c.args.code.now (answers_of g.C.Fn c.args.callback.now)
