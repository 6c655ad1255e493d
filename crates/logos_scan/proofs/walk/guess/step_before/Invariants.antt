use Rattle.logos_scan.specs.walk.Blocks.{AreRowStarts}
use Rattle.logos_scan.proofs.walk.guess.step_before.Given as goal

abbrev pub invariant-loop-block : goal.invariant-loop-block
invariant-loop-block l = record {
  row_starts : AreRowStarts l.rows l.row_starts;
}
