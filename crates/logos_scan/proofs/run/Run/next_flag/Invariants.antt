use Rattle.std.proofs.Common.{◌-◌, length}
use Rattle.logos_scan.specs.Runs.{IsReady, with_chunk}
use Rattle.logos_scan.specs.Attempts.{SkipsTo}
use Rattle.logos_scan.specs.walk.Cursors.{start_of}
use Rattle.logos_scan.proofs.run.Run.next_flag.Given as goal

abbrev pub invariant-loop-at : goal.invariant-loop-at
invariant-loop-at l = record {
  ready : IsReady l.reading (with_chunk l.chunk l.self);
  skips : SkipsTo l.reading.code.now l.reading.input.now (start_of l.initial.self.cursor) (start_of l.self.cursor);
}

abbrev pub decreases-loop-at : goal.decreases-loop-at
decreases-loop-at l = length l.reading.input.now - l.self.cursor.base
