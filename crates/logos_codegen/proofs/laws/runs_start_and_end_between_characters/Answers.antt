use Rattle.std.proofs.Common.{true, refl}
use Rattle.std.proofs.lemmas.Str.{IsCharBoundary-start}
use Rattle.logos_machine.specs.LexerValue.{answers_of}
use Rattle.logos_generator.proofs.Compose.{runs_iff}
use Rattle.logos_generator.proofs.CutLemmas.{items_cut}
use Rattle.logos_codegen.proofs.LexLemmas.{accepted_texts}
use Rattle.logos_codegen.proofs.laws.runs_start_and_end_between_characters.Goals as goal

pub returns : goal.returns
returns g c = λ source rules code bytes items a lexer input runs.
    items_cut bytes (input.1 refl) rules (accepted_texts source rules a) (answers_of g.C.Fn c.args.callback.now) (IsCharBoundary-start bytes (input.1 refl))
    ((runs_iff rules true code (answers_of g.C.Fn c.args.callback.now) bytes 0 items lexer input).0 runs)
