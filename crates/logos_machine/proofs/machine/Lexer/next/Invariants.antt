use Rattle.std.proofs.Common.{◌≡◌, ◌-◌, length}
use Rattle.logos_machine.specs.LexerValue.{answers_of}
use Rattle.logos_machine.proofs.LexerLemmas.{Continues}
use Rattle.logos_machine.proofs.machine.Lexer.next.Given as goal

-- a continuation after the skipped matches continues after the last item
abbrev pub invariant-loop-to : goal.invariant-loop-to
invariant-loop-to g l = record {
  same : l.self ≡ l.fn.self;
  on : Continues (answers_of g.C.Fn l.fn.self.callback) l.fn.self l.from;
}

abbrev pub decreases-loop-to : goal.decreases-loop-to
decreases-loop-to g l = length l.fn.self.input - l.from
