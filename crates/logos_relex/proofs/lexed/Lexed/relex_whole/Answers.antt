use Rattle.std.proofs.Common.{refl}
use Rattle.logos_relex.proofs.lexed.Lexed.relex_whole.Goals as goal

-- no chunk, and all items after it
pub returns-clause-lexed : goal.returns-clause-lexed
returns-clause-lexed g c = record {
  made = record { rest = c.args.input.now; chunks_are = rw c.clear.ensures.items refl; last_are = c.in_ok-last.ensures.items; text = c.in_ok-last.ensures.accepted };
  length_is = refl;
}
