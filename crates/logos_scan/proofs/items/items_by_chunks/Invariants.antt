use Rattle.std.proofs.Common.{◌≤◌, ◌-◌, ◌++◌, List, map, length}
use Rattle.logos_code.specs.Items.{Item}
use Rattle.logos_code.specs.Runs.{Runs}
use Rattle.logos_machine.specs.LexerValue.{answers_of, item_of}
use Rattle.logos_scan.specs.Runs.{IsReady, with_chunk}
use Rattle.logos_scan.specs.walk.Cursors.{start_of}
use Rattle.logos_scan.proofs.items.items_by_chunks.Given as goal

-- A result for the run after the items so far completes to a result for the whole run.
abbrev pub invariant-loop-item : goal.invariant-loop-item
invariant-loop-item g l = record {
  ready : IsReady l.reading (with_chunk l.chunk l.run);
  within : (start_of l.run.cursor) ≤ length l.input;
  continues : (rest : List Item) → Runs l.folded.code (answers_of g.C.Fn l.callback) l.input (start_of l.run.cursor) rest →
      Runs l.folded.code (answers_of g.C.Fn l.callback) l.input 0 (map item_of l.items.items ++ rest);
}

abbrev pub decreases-loop-item : goal.decreases-loop-item
decreases-loop-item g l = length l.input - (start_of l.run.cursor)
