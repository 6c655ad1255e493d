use Rattle.std.proofs.Common.{◌∙◌, ap, arith}
use Rattle.logos_html.proofs.SpanLemmas.{next_item, no_item}
use Rattle.logos_html.proofs.spans.push_items.Goals as goal

pub loop-item-preserved : goal.loop-item-preserved
loop-item-preserved c =
    let i = c.loop-item.invariant in
    let moves = c.push_next.ensures.moves in
    record {
      same_text = ap (λ cursor. cursor.text) moves ∙ i.same_text;
      gains = λ new rest. i.gains new (next_item c.args.shown.leaves.now c.args.shown.bytes.now c.args.shown.end _ _ c.args.items.now c.loop-item.item-index c.item-item.result c.loop-item-test.true c.item-item.is c.push_next.ensures.gains (rw (c.span_of-at.ensures.to, moves) at rest));
    }

pub returns : goal.returns
returns c =
    c.loop-item.invariant.gains _ (no_item c.args.shown.leaves.now c.args.shown.bytes.now c.args.shown.end _ _ c.args.items.now c.loop-item.item-index (omega (arith, c.loop-item-test.false)) (rw c.part_of.ensures at c.push_bytes.ensures))
