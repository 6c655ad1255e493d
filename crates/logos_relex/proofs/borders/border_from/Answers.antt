use Rattle.std.proofs.Common.{arith}
use Rattle.logos_relex.proofs.ChunkLemmas.{border_fits, border_next}
use Rattle.logos_relex.proofs.borders.border_from.Goals as goal

pub overflow_add-border : goal.overflow_add-border
overflow_add-border c =
    let fits = border_fits c.args.chunks.now c.loop-border.border c.index-chunks-border.result c.index-chunks-border.is c.loop-border.invariant.border (grind (arith, c.if-border-chunks.true)) c.length.result c.length.ensures in
    omega (arith, fits, c.requires.bytes)

pub loop-border-preserved : goal.loop-border-preserved
loop-border-preserved c =
    let later = c.loop-border.invariant.later in
    record {
      border = border_next c.args.chunks.now c.loop-border.border c.index-chunks-border.result c.index-chunks-border.is c.loop-border.invariant.border (grind (arith, c.if-border-chunks.true)) c.length.result c.length.ensures;
      later = omega (arith, later);
    }
