use Rattle.std.proofs.Common.{arith}
use Rattle.logos_positions.proofs.classes.TableLemmas.{Grows-then}
use Rattle.logos_positions.proofs.characters.builder.follow_cells.Goals as goal

pub loop-row-preserved : goal.loop-row-preserved
loop-row-preserved c = record {
  within = omega (arith, c.in_ok-follow_row.ensures.longer, c.loop-row-test.true);
  long = c.in_ok-follow_row.ensures.long;
  rests = c.in_ok-follow_row.ensures.rests;
  grows = Grows-then _ _ _ c.loop-row.invariant.grows c.in_ok-follow_row.ensures.grows;
  cells = c.in_ok-follow_row.ensures.cells;
  weight = omega (arith, c.in_ok-follow_row.ensures.weight, c.loop-row.invariant.weight);
}
