use Rattle.std.proofs.Common.{List, refl, subst, sym}
use Rattle.logos_machine.specs.LexerValue.{answers_of}
use Rattle.logos_relex.specs.Chunks.{AreChunks}
use Rattle.logos_relex.specs.declared.chunk.Chunk.{Chunk}
use Rattle.logos_relex.proofs.lexed.Lexed.whole.Goals as goal

-- no chunk, and all items after it
pub returns-clause-lexed : goal.returns-clause-lexed
returns-clause-lexed g c =
    let input = c.args.input.now in
    record {
      made = record {
        rest = input;
        chunks_are = subst (λ (l : List Chunk). AreChunks c.args.code.now (answers_of g.C.Fn c.args.callback.now) input l input) (sym c.new-chunks.ensures.items) refl;
        last_are = c.in_ok-last.ensures.items;
        text = c.in_ok-last.ensures.accepted;
      };
      length_is = refl;
    }
