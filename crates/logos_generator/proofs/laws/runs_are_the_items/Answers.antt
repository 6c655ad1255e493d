use Rattle.logos_generator.proofs.Compose.{runs_iff}
use Rattle.logos_machine.specs.LexerValue.{answers_of}
use Rattle.logos_generator.proofs.laws.runs_are_the_items.Goals as goal

pub returns : goal.returns
returns g c = λ rules utf8 code bytes from items lexer input. runs_iff rules utf8 code (answers_of g.C.Fn c.args.callback.now) bytes from items lexer input
