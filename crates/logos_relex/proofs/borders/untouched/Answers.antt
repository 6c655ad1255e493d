use Rattle.std.proofs.Common.{◌+◌, ◌<◌, ◌≤◌, length, arith}
use Rattle.logos_relex.proofs.ChunkLemmas.{border_below, border_next}
use Rattle.logos_relex.proofs.borders.untouched.Goals as goal

pub loop-border-preserved : goal.loop-border-preserved
loop-border-preserved c =
    let b = c.loop-border.invariant.border in
    let chunk = c.index-chunks-border.result in
    let inside : c.loop-border.border.index < length c.args.chunks.now = grind (arith, c.loop-border-test.true) in
    let at : c.loop-border.border.at ≤ c.args.limit = c.loop-border.invariant.fits in
    let fits : c.loop-border.border.at + chunk.length ≤ c.args.limit = grind (arith, at, c.if-max-limit.false, c.max.ensures, c.length.ensures) in
    let looks : c.loop-border.border.at + chunk.window ≤ c.args.limit = grind (arith, at, c.if-max-limit.false, c.max.ensures, c.window.ensures) in
    record {
      border = border_next c.args.chunks.now c.loop-border.border chunk c.index-chunks-border.is b inside c.length-in-loop-border.result c.length-in-loop-border.ensures;
      fits = omega (arith, fits, c.length-in-loop-border.ensures);
      below = border_below c.args.chunks.now c.loop-border.border chunk c.index-chunks-border.is b inside c.args.limit c.loop-border.invariant.below looks fits;
    }
