use Rattle.logos_code.specs.Runs.{CodeFinds}
use Rattle.logos_machine.specs.LexerValue.{answers_of}
use Rattle.logos_machine.proofs.ItemsLemmas.{lexes_by}
use Rattle.logos_machine.proofs.laws.runs_go_over.Goals as goal

pub returns : goal.returns
returns g c = λ among code input from items runs.
    lexes_by code.leaves input (CodeFinds code input) (answers_of g.C.Fn c.args.callback.now) (answers_of g.D.Fn c.args.other.now) among runs
