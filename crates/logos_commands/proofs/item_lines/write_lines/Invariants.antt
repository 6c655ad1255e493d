use Rattle.std.proofs.Common.{◌≡◌, ◌-◌, ◌<◌, ◌≤◌, length, vec_len, vec_capacity}
use Rattle.logos_machine.specs.LexerValue.{answers_of}
use Rattle.logos_commands.proofs.LexingLemmas.{Continues}
use Rattle.logos_commands.proofs.item_lines.write_lines.Given as goal

-- code, input and callback stay, the block has room for a line, and a result for the rest
-- completes the whole
abbrev pub invariant-loop-item : goal.invariant-loop-item
invariant-loop-item g l = record {
  same_code : l.lexer.code ≡ l.fn.lexer.code;
  same_input : l.lexer.input ≡ l.fn.lexer.input;
  same_callback : l.lexer.callback ≡ l.fn.lexer.callback;
  few : vec_len l.block < 65536;
  room : 65606 ≤ vec_capacity l.block;
  continues : Continues l.fn.lexer.code (answers_of g.C.Fn l.fn.lexer.callback) l.fn.lexer.input l.fn.lexer.to l.fn.block.items (g.O.Write.contents l.fn.out) l.lexer.to l.block.items (g.O.Write.contents l.out);
}

abbrev pub decreases-loop-item : goal.decreases-loop-item
decreases-loop-item g l = length l.lexer.input - l.lexer.to
