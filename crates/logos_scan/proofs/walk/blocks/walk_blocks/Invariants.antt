use Rattle.logos_scan.specs.walk.Blocks.{AreRowStarts, AreWalked}
use Rattle.logos_scan.proofs.walk.blocks.walk_blocks.Given as goal

abbrev pub invariant-loop-at : goal.invariant-loop-at
invariant-loop-at l = record {
  walked : AreWalked l.rows l.text l.initial.row_starts l.trace l.at l.now;
  row_starts : AreRowStarts l.rows l.now;
}
