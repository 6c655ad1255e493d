use Rattle.std.proofs.Common.{◌-◌, length}
use Rattle.logos_machine.specs.LexerValue.{answers_of}
use Rattle.logos_machine.proofs.LexerLemmas.{Continues}
use Rattle.logos_scan.specs.Items.{lexer_at}
use Rattle.logos_scan.specs.Runs.{IsReady, with_chunk}
use Rattle.logos_scan.specs.walk.Cursors.{start_of}
use Rattle.logos_scan.proofs.run.Run.next_item.Given as goal

-- a continuation after the matches without an item continues from the former start of the run
abbrev pub invariant-loop-leaf : goal.invariant-loop-leaf
invariant-loop-leaf g l = record {
  ready : IsReady l.reading (with_chunk l.chunk l.self);
  on : Continues (answers_of g.C.Fn l.callback) (lexer_at l.reading l.callback (start_of l.initial.self.cursor) (start_of l.initial.self.cursor)) (start_of l.self.cursor);
}

abbrev pub decreases-loop-leaf : goal.decreases-loop-leaf
decreases-loop-leaf g l = length l.reading.input.now - (start_of l.self.cursor)
