use Rattle.std.proofs.Common.{refl}
use Rattle.logos_html.specs.Descriptions.{IsDescribed}
use Rattle.logos_html.proofs.ItemLemmas.{one_more_described, one_more_item}
use Rattle.logos_html.proofs.descriptions.describe.Goals as goal

pub loop-item-preserved : goal.loop-item-preserved
loop-item-preserved c =
    let i = c.loop-item.invariant in
    let pushed = c.in_ok-push.ensures.items in
    record {
      same = rw pushed (one_more_item c.loop-item.described.items _ c.args.items.now c.loop-item.item-index _ c.loop-item-test.true refl i.same);
      described = λ of_leaves starts bytes. rw pushed (one_more_described c.loop-item.described.items _ (IsDescribed c.args.subject.graph.now.leaves c.args.subject.code.now c.args.subject.bytes.now)
          (i.described of_leaves starts bytes) (c.in_ok-description.ensures of_leaves starts bytes));
    }
