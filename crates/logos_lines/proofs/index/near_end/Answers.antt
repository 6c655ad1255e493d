use Rattle.std.proofs.Common.{◌≡◌, ◌∙◌, ℕ, List, drop, ap, sym, arith}
use Rattle.logos_lines.specs.Locations.{line_length}
use Rattle.logos_lines.proofs.LineLemmas.{continues}
use Rattle.logos_lines.proofs.index.near_end.Goals as goal

pub loop-end-preserved : goal.loop-end-preserved
loop-end-preserved c =
    let i = c.loop-end.invariant in
    let l = c.loop-end-test.true in
    let step = continues c.as_bytes-bytes.result.now c.loop-end.end l (sym c.ends_line.ensures ∙ c.if-not-ends_line.true) in
    let few = c.if-end-start.false in
    record { after = omega (arith, i.after); inside = omega (arith, l); near = omega (arith, i.after, few); value = omega (arith, i.value, step) }

pub returns-then-end-start-clause-value : goal.returns-then-end-start-clause-value
returns-then-end-start-clause-value c =
    let i = c.loop-end.invariant in
    let l = c.loop-end-test.true in
    let step = continues c.as_bytes-bytes.result.now c.loop-end.end l (sym c.ends_line.ensures ∙ c.if-not-ends_line.true) in
    let far = c.if-end-start.true in
    let same : line_length (drop c.args.start c.as_bytes-bytes.result.now) ≡ line_length (drop c.args.start c.args.text.now) =
    ap (λ (l : List ℕ). line_length (drop c.args.start l)) c.as_bytes-bytes.ensures.value in
    omega (arith, i.value, i.after, step, far, same)
