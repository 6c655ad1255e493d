use Rattle.std.proofs.Common.{◌<◌, length, min, max, ap, ◌∙◌, arith}
use Rattle.logos_hir.specs.declared.hir.Range.{Range}
use Rattle.logos_positions.proofs.trees.ByteLemmas.{near_at, range_widened}
use Rattle.logos_positions.proofs.preparation.classes.add_range.Goals as goal

pub returns-then-i-len : goal.returns-then-i-len
returns-then-i-len c = λ x.
    let rs = c.args.ranges.now.items in
    let i = c.near_range-i.result in
    let within : i < length rs = omega (arith, c.if-i-len.true, c.len.ensures, c.args.ranges.now.ok.0) in
    let near = near_at rs i c.index.result.now c.args.range within (rw c.deref.ensures.value at c.near_range-i.ensures.near) in
    range_widened rs i c.index.result.now c.args.range c.hull.result within near
    (c.hull.ensures.first ∙ ap (λ (r : Range). min r.first c.args.range.first) c.index.ensures)
    (c.hull.ensures.last ∙ ap (λ (r : Range). max r.last c.args.range.last) c.index.ensures) x
