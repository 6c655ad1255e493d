use Rattle.logos_generator.proofs.Compose.{runs_iff}
use Rattle.logos_machine.specs.LexerValue.{answers_of}
use Rattle.logos_generator.proofs.laws.codes_of_the_same_rules_agree.Goals as goal

pub returns : goal.returns
returns g c = λ rules utf8 code other bytes from items lexer same input.
    let one = runs_iff rules utf8 code (answers_of g.C.Fn c.args.callback.now) bytes from items lexer input in
    let two = runs_iff rules utf8 other (answers_of g.C.Fn c.args.callback.now) bytes from items same input in
    (λ r. two.1 (one.0 r), λ r. one.1 (two.0 r))
