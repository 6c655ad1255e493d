use Rattle.std.proofs.Common.{◌≡◌}
use Rattle.logos_machine.specs.LexerValue.{answers_of}
use Rattle.logos_stream.proofs.LeftLemmas.{Stepping}
use Rattle.logos_stream.proofs.stream.Stream.items.Given as goal

-- The items so far were given by the stream, which continues.
abbrev pub invariant-loop : goal.invariant-loop
invariant-loop g l = record {
  same_code : l.stream.code ≡ l.fn.self.code;
  same_callback : l.stream.callback ≡ l.fn.self.callback;
  stepping : Stepping g.R.Read.remaining l.fn.self.code (answers_of g.C.Fn l.fn.self.callback) l.fn.self.window l.stream.window l.items.items;
}
