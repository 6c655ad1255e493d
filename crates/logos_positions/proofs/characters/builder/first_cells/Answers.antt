use Rattle.std.proofs.Common.{sym, ◌∙◌, arith}
use Rattle.logos_positions.specs.inside.Ranges.{in_ranges}
use Rattle.logos_positions.proofs.classes.TableLemmas.{first_more}
use Rattle.logos_positions.proofs.characters.builder.first_cells.Goals as goal

pub loop-byte-preserved : goal.loop-byte-preserved
loop-byte-preserved c =
    record {
      rests = c.in_ok-to.ensures.rests;
      long = omega (arith, c.in_ok-push.ensures.len, c.loop-byte.invariant.long);
      cells = rw c.in_ok-push.ensures.items
          (first_more (in_ranges c.args.ranges.now) c.loop-byte.rests.keys _ c.loop-byte.cells.items c.loop-byte.byte c.in_ok-to.to
          (sym c.loop-byte.invariant.long ∙ c.loop-byte.cells.ok.0) c.in_ok-to.ensures.grows c.loop-byte.invariant.cells c.in_ok-to.ensures.finds);
      weight = omega (arith, c.in_ok-to.ensures.weight, c.loop-byte.invariant.weight);
    }
