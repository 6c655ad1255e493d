-- The text of an input, item by item.
use Rattle.std.proofs.Common.{◌≡◌, ◌≤◌, ◌<◌, ◌+◌, ◌∙◌, ◌∷◌, ℕ, List, length, get_or, drop, map, ap, sym, subst}
use Rattle.std.proofs.lemmas.List.{at_drop_more, at_drop_all}
use Rattle.logos_page.specs.Pages.{PageValue, Gains}
use Rattle.logos_page.proofs.PageLemmas.{gains_then}
use Rattle.logos_pattern.specs.declared.leaf.Leaf.{Leaf}
use Rattle.logos_html.specs.DescribedView.{described_of}
use Rattle.logos_html.specs.Descriptions.{end_of, start_of}
use Rattle.logos_html.specs.Flows.{flowing_bytes}
use Rattle.logos_html.specs.Spans.{items_text, moved, next_text, part_of}
use Rattle.logos_html.specs.declared.descriptions.Described.{Described}

module _ (leaves : List Leaf) (bytes : List ℕ) (end at cursor : ℕ) (items : List Described) (k : ℕ) where
  -- the next item, and those after it
  pub next_item : (it : Described) {old middle new : PageValue} → k < length items → it ≡ get_or items k it → Gains (next_text leaves bytes end at cursor (described_of it)) old middle →
      Gains (items_text leaves bytes end (end_of (described_of it).item) (moved bytes cursor (start_of (described_of it).item)) (map described_of (drop (k + 1) items))) middle new →
      Gains (items_text leaves bytes end at cursor (map described_of (drop k items))) old new
  next_item it {old} {middle} {new} l is one rest =
      let first = at_drop_more (λ its. items_text leaves bytes end at cursor (map described_of its)) items k it l in
      let same = ap (λ (x : Described). items_text leaves bytes end at cursor (map described_of (x ∷ drop (k + 1) items))) (sym is) in
      subst (λ text. Gains text old new) (sym (first ∙ same)) (gains_then one rest)

  -- no item is left
  pub no_item : {old new : PageValue} → length items ≤ k → Gains (flowing_bytes (part_of bytes end at end)) old new → Gains (items_text leaves bytes end at cursor (map described_of (drop k items))) old new
  no_item {old} {new} l one = subst (λ text. Gains text old new) (sym (at_drop_all (λ its. items_text leaves bytes end at cursor (map described_of its)) items k l)) one
