-- One more item with its description.
use Rattle.std.proofs.Common.{◌≡◌, ◌∙◌, ◌<◌, ◌+◌, ◌++◌, ◌∷◌, [], ℕ, zero, suc, List, length, get_or, slice_index_or, take, map, ap, sym, subst, arith}
use Rattle.std.specs.List.{All}
use Rattle.std.proofs.lemmas.List.{map-append, take_more}
use Rattle.std.proofs.lemmas.List.Elements.{All-append}
use Rattle.logos_machine.specs.LexerValue.{item_of}
use Rattle.logos_machine.specs.declared.machine.Item.{Item}
use Rattle.logos_html.specs.DescribedView.{described_of, items_of}
use Rattle.logos_html.specs.Descriptions.{DescribedItem}
use Rattle.logos_html.specs.declared.descriptions.Described.{Described}

module _ (described : List Described) (x : Described) where
  pub one_more_item : (items : List Item) (i : ℕ) (d : Item) → i < length items → x.item ≡ get_or items i d → items_of described ≡ map item_of (take i items) →
      items_of (described ++ x ∷ []) ≡ map item_of (take (i + 1) items)
  one_more_item items i d l e same =
      ap (map (λ (it : DescribedItem). it.item)) (map-append described_of described (x ∷ [])) ∙ map-append (λ (it : DescribedItem). it.item) (map described_of described) (described_of x ∷ []) ∙
      ap (λ xs. xs ++ item_of x.item ∷ []) same ∙ ap (λ (it : Item). map item_of (take i items) ++ item_of it ∷ []) e ∙ sym (map-append item_of (take i items) (get_or items i d ∷ [])) ∙
      ap (map item_of) (sym (take_more items i d l))

  pub one_more_described : (P : DescribedItem → Type 0) → All P (map described_of described) → P (described_of x) → All P (map described_of (described ++ x ∷ []))
  one_more_described P all p = subst (All P) (sym (map-append described_of described (x ∷ []))) (All-append P (map described_of described) (described_of x ∷ []) all one)
    where
      one : (k : ℕ) (d : DescribedItem) → k < length (described_of x ∷ []) → P (slice_index_or (described_of x ∷ []) k d)
      one zero d l = p
      one (suc k) d l = absurd (omega (arith, l))
