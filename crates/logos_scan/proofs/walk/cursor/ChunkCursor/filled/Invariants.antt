use Rattle.std.proofs.Common.{◌-◌}
use Rattle.logos_scan.specs.walk.Cursors.{Passes, IsAt}
use Rattle.logos_scan.proofs.walk.cursor.ChunkCursor.filled.Given as goal

abbrev pub invariant-loop-cursor : goal.invariant-loop-cursor
invariant-loop-cursor l = record {
  is_at : IsAt l.chunk.entries l.cursor;
  passes : Passes l.chunk.entries l.fn.self l.cursor;
}

abbrev pub decreases-loop-cursor : goal.decreases-loop-cursor
decreases-loop-cursor l = 72 - l.cursor.word
