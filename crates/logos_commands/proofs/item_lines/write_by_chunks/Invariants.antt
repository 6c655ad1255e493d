use Rattle.std.proofs.Common.{◌-◌, ◌<◌, ◌≤◌, length, vec_len, vec_capacity}
use Rattle.logos_machine.specs.LexerValue.{answers_of}
use Rattle.logos_scan.specs.Runs.{IsReady, with_chunk}
use Rattle.logos_scan.specs.walk.Cursors.{start_of}
use Rattle.logos_commands.proofs.LexingLemmas.{Continues}
use Rattle.logos_commands.proofs.item_lines.write_by_chunks.Given as goal

-- the run has its chunk and is in the input, the block has room for a line, and a result for the
-- rest completes to a result for the whole
abbrev pub invariant-loop-item : goal.invariant-loop-item
invariant-loop-item g l = record {
  ready : IsReady l.reading (with_chunk l.chunk l.run);
  within : (start_of l.run.cursor) ≤ length l.input;
  few : vec_len l.block < 65536;
  room : 65606 ≤ vec_capacity l.block;
  continues : Continues l.folded.code (answers_of g.C.Fn l.callback) l.input 0 l.fn.block.items (g.O.Write.contents l.fn.out) (start_of l.run.cursor) l.block.items (g.O.Write.contents l.out);
}

abbrev pub decreases-loop-item : goal.decreases-loop-item
decreases-loop-item g l = length l.input - (start_of l.run.cursor)
