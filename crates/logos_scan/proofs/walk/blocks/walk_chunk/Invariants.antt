use Rattle.logos_scan.specs.walk.Walk.{IsRowStart}
use Rattle.logos_scan.specs.walk.Blocks.{AreRowStarts}
use Rattle.logos_scan.proofs.walk.BlocksLemmas.{AreRepaired}
use Rattle.logos_scan.proofs.walk.blocks.walk_chunk.Given as goal

abbrev pub invariant-loop-block : goal.invariant-loop-block
invariant-loop-block l = record {
  repaired_block : AreRepaired l.rows l.text l.from l.ends l.trace l.row_start l.block l.now;
  ends : AreRowStarts l.rows l.ends;
  stays : IsRowStart l.rows l.now;
}
