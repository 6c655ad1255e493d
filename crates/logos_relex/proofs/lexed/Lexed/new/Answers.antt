use Rattle.logos_machine.specs.LexerValue.{answers_of}
use Rattle.logos_relex.proofs.TextLemmas.{made_text}
use Rattle.logos_relex.proofs.lexed.Lexed.new.Goals as goal

pub returns-in-Ok-clause-accepted : goal.returns-in-Ok-clause-accepted
returns-in-Ok-clause-accepted g c utf8 =
    made_text c.args.code.now (answers_of g.C.Fn c.args.callback.now) utf8 c.args.input.now c.in-Ok.chunks.items c.in-Ok.last.items c.in-Ok.ensures
