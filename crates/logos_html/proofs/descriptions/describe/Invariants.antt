use Rattle.std.proofs.Common.{◌≡◌, map, take}
use Rattle.logos_machine.specs.LexerValue.{item_of}
use Rattle.logos_html.specs.DescribedView.{described_of, items_of}
use Rattle.logos_html.specs.Marked.{AreDescribed}
use Rattle.logos_html.proofs.descriptions.describe.Given as goal

-- the items so far have descriptions
abbrev pub invariant-loop-item : goal.invariant-loop-item
invariant-loop-item l = record {
  same : items_of l.described.items ≡ map item_of (take l.item-index l.items);
  described : AreDescribed l.subject.code.now l.subject.graph.now l.subject.bytes.now (map described_of l.described.items);
}
