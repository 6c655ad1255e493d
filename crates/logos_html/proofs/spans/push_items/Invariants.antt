use Rattle.std.proofs.Common.{◌≡◌, drop, map}
use Rattle.logos_page.specs.Pages.{PageValue, Gains}
use Rattle.logos_html.specs.DescribedView.{described_of}
use Rattle.logos_html.specs.Spans.{items_text}
use Rattle.logos_html.proofs.spans.push_items.Given as goal

-- the cursor is in the input, and with the items that are left the page gains all of them
abbrev pub invariant-loop-item : goal.invariant-loop-item
invariant-loop-item l = record {
  same_text : l.cursor.text ≡ l.shown.bytes.now;
  gains : (new : PageValue) → Gains (items_text l.shown.leaves.now l.shown.bytes.now l.shown.end l.at l.cursor.at (map described_of (drop l.item-index l.items))) l.html new →
      Gains (items_text l.shown.leaves.now l.shown.bytes.now l.shown.end 0 0 (map described_of l.items)) l.initial.html new;
}
