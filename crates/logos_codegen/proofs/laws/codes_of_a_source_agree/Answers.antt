use Rattle.logos_code.specs.Headline.{IsLexer}
use Rattle.logos_machine.specs.LexerValue.{answers_of}
use Rattle.logos_generator.proofs.Compose.{runs_iff}
use Rattle.logos_codegen.proofs.AcceptLemmas.{accepted_once}
use Rattle.logos_codegen.proofs.laws.codes_of_a_source_agree.Goals as goal

pub returns : goal.returns
returns g c = λ source rules others utf8 other code next bytes items a b lexer second input.
    let same = accepted_once source rules others utf8 other a b in
    let second' : IsLexer rules utf8 next = rw (same.0, same.1) second in
    let one = runs_iff rules utf8 code (answers_of g.C.Fn c.args.callback.now) bytes 0 items lexer input in
    let two = runs_iff rules utf8 next (answers_of g.C.Fn c.args.callback.now) bytes 0 items second' input in
    (λ r. two.1 (one.0 r), λ r. one.1 (two.0 r))
