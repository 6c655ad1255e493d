use Rattle.std.proofs.Common.{◌≡◌, ◌-◌, map, length}
use Rattle.logos_machine.specs.LexerValue.{answers_of, item_of}
use Rattle.logos_html.specs.Finds.{RunsTo}
use Rattle.logos_html.proofs.finds.next_items.Given as goal

-- code, input and callback stay, and the run has the items so far
abbrev pub invariant-loop-item : goal.invariant-loop-item
invariant-loop-item g l = record {
  same_code : l.lexer.code ≡ l.fn.lexer.code;
  same_input : l.lexer.input ≡ l.fn.lexer.input;
  same_callback : l.lexer.callback ≡ l.fn.lexer.callback;
  runs : RunsTo l.fn.lexer.code (answers_of g.C.Fn l.fn.lexer.callback) l.fn.lexer.input l.fn.lexer.to (map item_of l.items.items) l.lexer.to;
}

abbrev pub decreases-loop-item : goal.decreases-loop-item
decreases-loop-item g l = length l.lexer.input - l.lexer.to
