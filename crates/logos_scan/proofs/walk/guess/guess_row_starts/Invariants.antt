use Rattle.logos_scan.specs.walk.Blocks.{AreRowStarts}
use Rattle.logos_scan.proofs.walk.guess.guess_row_starts.Given as goal

abbrev pub invariant-loop-at : goal.invariant-loop-at
invariant-loop-at l = record {
  row_starts : AreRowStarts l.rows l.row_starts;
}
