use Rattle.std.proofs.Common.{◌≡◌, ◌-◌, length}
use Rattle.logos_machine.specs.LexerValue.{answers_of}
use Rattle.logos_machine.proofs.WithinLemmas.{ContinuesWithin}
use Rattle.logos_machine.proofs.machine.Lexer.next_in_part.Given as goal

-- a continuation after the matches without an item continues after the last item, regardless of the
-- bytes that follow the part
abbrev pub invariant-loop-leaf : goal.invariant-loop-leaf
invariant-loop-leaf g l = record {
  same : l.self ≡ l.fn.self;
  on : ContinuesWithin (answers_of g.C.Fn l.fn.self.callback) l.fn.self l.from;
}

abbrev pub decreases-loop-leaf : goal.decreases-loop-leaf
decreases-loop-leaf g l = length l.fn.self.input - l.from
