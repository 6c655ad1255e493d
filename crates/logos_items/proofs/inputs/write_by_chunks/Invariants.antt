use Rattle.std.proofs.Common.{◌≤◌, ◌-◌, length}
use Rattle.logos_scan.specs.Runs.{IsReady, with_chunk}
use Rattle.logos_scan.specs.walk.Cursors.{start_of}
use Rattle.logos_items.proofs.inputs.write_by_chunks.Given as goal

-- the run has its chunk, and is inside the input
abbrev pub invariant-loop-item : goal.invariant-loop-item
invariant-loop-item g l = record {
  ready : IsReady l.reading (with_chunk l.chunk l.run);
  within : (start_of l.run.cursor) ≤ length l.input;
}

abbrev pub decreases-loop-item : goal.decreases-loop-item
decreases-loop-item g l = length l.input - (start_of l.run.cursor)
