use Rattle.std.proofs.Common.{true, refl}
use Rattle.logos_generator.proofs.Compose.{runs_iff}
use Rattle.logos_generator.proofs.CutLemmas.{items_cut}
use Rattle.logos_machine.specs.LexerValue.{answers_of}
use Rattle.logos_generator.proofs.laws.items_are_cut_between_characters.Goals as goal

pub returns : goal.returns
returns g c = λ rules code bytes from items lexer texts input cut runs.
    items_cut bytes (input.1 refl) rules texts (answers_of g.C.Fn c.args.callback.now) cut
    ((runs_iff rules true code (answers_of g.C.Fn c.args.callback.now) bytes from items lexer input).0 runs)
