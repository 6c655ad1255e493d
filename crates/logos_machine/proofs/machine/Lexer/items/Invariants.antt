use Rattle.std.proofs.Common.{◌≡◌, ◌≤◌, ◌-◌, ◌++◌, List, map, length}
use Rattle.logos_code.specs.Items.{Item}
use Rattle.logos_code.specs.Runs.{Runs}
use Rattle.logos_machine.specs.LexerValue.{answers_of, item_of}
use Rattle.logos_machine.proofs.machine.Lexer.items.Given as goal

-- A result for the run after the items so far completes to a result for the whole run.
abbrev pub invariant-loop-item : goal.invariant-loop-item
invariant-loop-item g l = record {
  same_code : l.lexer.code ≡ l.fn.self.code;
  same_input : l.lexer.input ≡ l.fn.self.input;
  same_callback : l.lexer.callback ≡ l.fn.self.callback;
  within : l.lexer.to ≤ length l.fn.self.input;
  continues : (rest : List Item) → Runs l.fn.self.code (answers_of g.C.Fn l.fn.self.callback) l.fn.self.input l.lexer.to rest →
      Runs l.fn.self.code (answers_of g.C.Fn l.fn.self.callback) l.fn.self.input l.fn.self.to (map item_of l.items.items ++ rest);
}

abbrev pub decreases-loop-item : goal.decreases-loop-item
decreases-loop-item g l = length l.fn.self.input - l.lexer.to
