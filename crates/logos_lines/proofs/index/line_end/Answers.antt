use Rattle.std.proofs.Common.{sym, ◌∙◌, arith}
use Rattle.logos_lines.proofs.LineLemmas.{continues}
use Rattle.logos_lines.proofs.index.line_end.Goals as goal

pub loop-end-preserved : goal.loop-end-preserved
loop-end-preserved c =
    let i = c.loop-end.invariant in
    let l = c.loop-end-test.true in
    let step = continues c.as_bytes-bytes.result.now c.loop-end.end l (sym c.ends_line.ensures ∙ c.if-not-ends_line.true) in
    record { after = omega (arith, i.after); inside = omega (arith, l); value = omega (arith, i.value, step) }
