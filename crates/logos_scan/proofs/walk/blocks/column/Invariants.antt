use Rattle.std.proofs.Common.{List, ℕ}
use Rattle.logos_scan.specs.walk.Blocks.{AreRowStarts, AreWalked}
use Rattle.logos_scan.proofs.walk.BlocksLemmas.{AreStepped}
use Rattle.logos_scan.proofs.walk.blocks.column.Given as goal

abbrev pub invariant-loop-block : goal.invariant-loop-block
invariant-loop-block l = record {
  walked : (origin : List ℕ) → AreWalked l.rows l.text origin l.initial.trace l.at l.initial.row_starts → AreStepped l.rows l.text origin l.trace l.at l.block l.row_starts;
  row_starts : AreRowStarts l.rows l.row_starts;
}
