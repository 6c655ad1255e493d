use Rattle.std.proofs.Common.{◌≡◌, ◌-◌, length}
use Rattle.logos_items.proofs.records.write_records.Given as goal

-- code and callback stay
abbrev pub invariant-loop-item : goal.invariant-loop-item
invariant-loop-item g l = record {
  same_code : l.lexer.code ≡ l.fn.lexer.code;
  same_callback : l.lexer.callback ≡ l.fn.lexer.callback;
}

abbrev pub decreases-loop-item : goal.decreases-loop-item
decreases-loop-item g l = length l.lexer.input - l.lexer.to
