use Rattle.logos_generator.proofs.Compose.{next_iff}
use Rattle.logos_machine.specs.LexerValue.{answers_of}
use Rattle.logos_generator.proofs.laws.next_items_are_the_next.Goals as goal

pub returns : goal.returns
returns g c = λ rules utf8 code bytes from item end lexer input. next_iff rules utf8 code (answers_of g.C.Fn c.args.callback.now) bytes from item end lexer input
