use Rattle.std.proofs.Common.{◌≡◌, ◌-◌, length}
use Rattle.logos_machine.specs.LexerValue.{answers_of}
use Rattle.logos_relex.proofs.ItemLemmas.{Settling}
use Rattle.logos_relex.proofs.chunk.settled.Given as goal

-- The items so far were found regardless of the bytes after the part.
abbrev pub invariant-loop-item : goal.invariant-loop-item
invariant-loop-item g l = record {
  same_code : l.lexer.code ≡ l.fn.lexer.code;
  same_input : l.lexer.input ≡ l.fn.lexer.input;
  same_callback : l.lexer.callback ≡ l.fn.lexer.callback;
  settling : Settling l.fn.lexer.code (answers_of g.C.Fn l.fn.lexer.callback) l.fn.lexer.input l.items.items l.lexer.to;
}

abbrev pub decreases-loop-item : goal.decreases-loop-item
decreases-loop-item g l = length l.fn.lexer.input - l.lexer.to
