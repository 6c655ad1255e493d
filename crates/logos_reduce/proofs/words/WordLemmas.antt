-- States in different blocks are distinguished, by words shorter than there are blocks.
use Rattle.std.proofs.Common.{◌≡◌, ◌≢◌, ℕ, zero, suc, ◌<◌, ◌≤◌, ◌+◌, ◌-◌, ◌⊎◌, inl, inr, true, false, nat_eq, slice_index, List, [], ◌∷◌, length, Option, Some, None, option_map, refl, sym, ◌∙◌, ap, subst, arith}
use Rattle.std.proofs.lemmas.Bool.Decides.{eqb_tells}
use Rattle.logos_reduce.specs.SymbolWords.{state_after, WordDistinguishes}
use Rattle.logos_reduce.specs.Merge.{target_block, ArePartedBy, split_at, IsHistory, IsMerged}
use Rattle.logos_reduce.specs.inside.Merge.{IsFiner}
use Rattle.logos_reduce.specs.inside.Count.{count_blocks}
use Rattle.logos_reduce.specs.Table.{size, to, mark}
use Rattle.logos_reduce.specs.Number.{IsNumbered}
use Rattle.logos_reduce.specs.declared.merge.blocks.Split.{Split}
use Rattle.logos_reduce.specs.declared.table.Table.{Table}
use Rattle.logos_reduce.proofs.merging.CountLemmas.{blocks_le, blocks_lt, blocks_few, blocks_some}
use Rattle.logos_reduce.proofs.tables.EdgeLemmas.{edge_within}
use Rattle.logos_reduce.proofs.numbering.NumberLemmas.{used_leader}
use Rattle.logos_reduce.proofs.numbering.StateLemmas as num

module _ (table : Table) (splits : List Split) (block : ℕ → ℕ) (h : IsHistory table splits block) where
  -- a word that distinguishes two states, and is shorter than this number
  abbrev pub DistinguishedWithin : ℕ → ℕ → ℕ → Type 0
  DistinguishedWithin n s t = (word : List ℕ) × (length word < n) × WordDistinguishes table s t word

  abbrev pub AllDistinguished : ℕ → Type 0
  AllDistinguished j = (s t : ℕ) → s < size table → t < size table → h.at j s ≢ h.at j t → DistinguishedWithin (count_blocks (size table) (h.at j)) s t

  -- blocks get finer
  pub history_finer : (j : ℕ) → 0 < j → j < length splits → IsFiner (size table) (h.at (j + 1)) (h.at j)
  history_finer j p l s t hs ht e = go (h.step j s p l hs) (h.step j t p l ht)
    where
      go : (h.at (j + 1) s ≡ h.at j s) ⊎ ((h.at (j + 1) s ≡ j) × (h.at j s ≡ (split_at splits j).parent)) →
          (h.at (j + 1) t ≡ h.at j t) ⊎ ((h.at (j + 1) t ≡ j) × (h.at j t ≡ (split_at splits j).parent)) → h.at j s ≡ h.at j t
      go (inl a) (inl b) = sym a ∙ e ∙ b
      go (inr a) (inr b) = a.1 ∙ sym b.1
      go (inl a) (inr b) = let w = h.below j s p (omega arith) hs in let z = b.0 in absurd (omega arith)
      go (inr a) (inl b) = let w = h.below j t p (omega arith) ht in let z = a.0 in absurd (omega arith)

  -- the conditions of a step by a symbol
  by_targets : (j n : ℕ) (o p : Option ℕ) → AllDistinguished j → count_blocks (size table) (h.at j) < n → 0 < count_blocks (size table) (h.at j) → ((t : ℕ) → o ≡ Some t → t < size table) → ((t : ℕ) → p ≡ Some t → t < size table) →
      option_map (h.at j) o ≢ option_map (h.at j) p → (word : List ℕ) × (length word + 1 < n) × (option_map (mark table) (state_after table o word) ≢ option_map (mark table) (state_after table p word))
  by_targets j n None None reported l some ho hp d = absurd (d refl)
  by_targets j n None (Some b) reported l some ho hp d = ([], omega arith, λ e. cc)
  by_targets j n (Some a) None reported l some ho hp d = ([], omega arith, λ e. cc)
  by_targets j n (Some a) (Some b) reported l some ho hp d =
      let w = reported a b (ho a refl) (hp b refl) (λ e. d (ap Some e)) in
      (w.0, let m = w.1 in omega arith, w.2)

  by_symbol : (j n s t : ℕ) (k : Option ℕ) → AllDistinguished j → count_blocks (size table) (h.at j) < n → 0 < count_blocks (size table) (h.at j) → s < size table → t < size table →
      ArePartedBy table (h.at j) k s t → DistinguishedWithin n s t
  by_symbol j n s t None reported l some hs ht d = ([], omega arith, λ e. d (cc))
  by_symbol j n s t (Some k) reported l some hs ht d =
      let w = by_targets j n (to table s k) (to table t k) reported l some (λ u e. (edge_within table s k u e).1) (λ u e. (edge_within table t k u e).1) d in
      (k ∷ w.0, let m = w.1 in omega arith, w.2)

  turned : (n s t : ℕ) → DistinguishedWithin n s t → DistinguishedWithin n t s
  turned n s t w = (w.0, w.1, λ e. w.2 (sym e))

  pub all_distinguished : (j : ℕ) → 0 < j → j ≤ length splits → AllDistinguished j
  all_distinguished zero p l = absurd (omega arith)
  all_distinguished (suc zero) p l = λ s t hs ht d.
      let a = h.below 1 s (omega arith) l hs in
      let b = h.below 1 t (omega arith) l ht in
      let e : h.at 1 s ≡ h.at 1 t = omega arith in
      absurd (d e)
  all_distinguished (suc (suc j)) p l = step (all_distinguished (suc j) (omega arith) (omega arith))
    where
      i : ℕ
      i = suc j

      inside : i < length splits
      inside = omega arith

      next : suc (suc j) ≡ suc j + 1
      next = omega arith

      step : AllDistinguished (suc j) → AllDistinguished (suc (suc j))
      step reported s t hs ht d' = subst (λ (n : ℕ). DistinguishedWithin (count_blocks (size table) (h.at n)) s t) (sym next) (go (eqb_tells (h.at (suc j) s) (h.at (suc j) t)))
        where
          d : h.at (suc j + 1) s ≢ h.at (suc j + 1) t
          d = subst (λ (n : ℕ). h.at n s ≢ h.at n t) next d'

          finer : IsFiner (size table) (h.at (suc j + 1)) (h.at (suc j))
          finer = history_finer (suc j) (omega arith) inside

          some : 0 < count_blocks (size table) (h.at (suc j))
          some = blocks_some (size table) (h.at (suc j)) (omega arith)

          more : h.at (suc j) s ≡ h.at (suc j) t → count_blocks (size table) (h.at (suc j)) < count_blocks (size table) (h.at (suc j + 1))
          more e = blocks_lt (size table) (h.at (suc j + 1)) (h.at (suc j)) finer s t hs ht e d

          apart : h.at (suc j) s ≡ h.at (suc j) t →
              (h.at (suc j + 1) s ≡ h.at (suc j) s) ⊎ ((h.at (suc j + 1) s ≡ suc j) × (h.at (suc j) s ≡ (split_at splits (suc j)).parent)) →
              (h.at (suc j + 1) t ≡ h.at (suc j) t) ⊎ ((h.at (suc j + 1) t ≡ suc j) × (h.at (suc j) t ≡ (split_at splits (suc j)).parent)) →
              DistinguishedWithin (count_blocks (size table) (h.at (suc j + 1))) s t
          apart e (inl a) (inl b) = absurd (d (a ∙ e ∙ sym b))
          apart e (inr a) (inr b) = absurd (d (a.0 ∙ sym b.0))
          apart e (inr a) (inl b) =
              by_symbol (suc j) _ s t (split_at splits (suc j)).symbol reported (more e) some hs ht (h.parted (suc j) s t (omega arith) inside hs ht a.0 (b ∙ sym e ∙ a.1))
          apart e (inl a) (inr b) =
              turned _ t s (by_symbol (suc j) _ t s (split_at splits (suc j)).symbol reported (more e) some ht hs (h.parted (suc j) t s (omega arith) inside ht hs b.0 (a ∙ e ∙ b.1)))

          go : ((nat_eq (h.at (suc j) s) (h.at (suc j) t) ≡ true) × (h.at (suc j) s ≡ h.at (suc j) t)) ⊎ ((nat_eq (h.at (suc j) s) (h.at (suc j) t) ≡ false) × (h.at (suc j) s ≢ h.at (suc j) t)) →
              DistinguishedWithin (count_blocks (size table) (h.at (suc j + 1))) s t
          go (inl e) = apart e.1 (h.step (suc j) s (omega arith) inside hs) (h.step (suc j) t (omega arith) inside ht)
          go (inr x) =
              let w = reported s t hs ht x.1 in
              let le = blocks_le (size table) (h.at (suc j + 1)) (h.at (suc j)) finer in
              (w.0, let m = w.1 in omega arith, w.2)

  -- at the end: fewer symbols than states
  pub distinguished : (s t : ℕ) → s < size table → t < size table → block s ≢ block t → 0 < length splits → DistinguishedWithin (size table) s t
  distinguished s t hs ht d some =
      let w = all_distinguished (length splits) some (omega arith) s t hs ht (λ e. d (sym (h.last s hs) ∙ e ∙ h.last t ht)) in
      let few = blocks_few (size table) (h.at (length splits)) in
      (w.0, let m = w.1 in omega arith, w.2)

  -- the earlier block of a state is known from any later one
  pub known_before : (d j s t : ℕ) → j + d ≡ length splits → 0 < j → s < size table → t < size table → block s ≡ block t → h.at j s ≡ h.at j t
  known_before zero j s t q p hs ht e =
      let z : j ≡ length splits = omega arith in
      ap (λ (i : ℕ). h.at i s) z ∙ h.last s hs ∙ e ∙ sym (h.last t ht) ∙ ap (λ (i : ℕ). h.at i t) (sym z)
  known_before (suc d) j s t q p hs ht e =
      history_finer j p (omega arith) s t hs ht (known_before d (j + 1) s t (omega arith) (omega arith) hs ht e)

-- the merged and numbered states have the same history
module _ (old new : Table) (splits : List Split) (block leader : ℕ → ℕ) (root : ℕ) (states : List ℕ) (m : IsMerged old splits block leader) (n : IsNumbered old block leader root states new) where
  abbrev h : IsHistory old splits block
  h = m.sound.history

  abbrev pub lead : ℕ → ℕ
  lead i = leader (slice_index states i)

  in_states : (i : ℕ) → i < size new → i < length states
  in_states i l = let e = n.states_of in omega arith

  pub lead_in : (i : ℕ) → i < size new → (lead i < size old) × (block (lead i) ≡ slice_index states i)
  lead_in i l = used_leader (size old) block leader states n.used m.leaders i (in_states i l)

  pub lead_number : (i : ℕ) → i < size new → num.IsIn old new splits block leader root states m n (lead i) × (num.number old new splits block leader root states m n (lead i) ≡ i)
  lead_number i l =
      let p = lead_in i l in
      let q = (n.order.placed i (in_states i l)).1 in
      let e = ap (slice_index n.numbers) p.1 in
      ((p.0, omega arith), omega arith)

  pub new_edge : (i k : ℕ) → i < size new → to new i k ≡ option_map (num.number old new splits block leader root states m n) (to old (lead i) k)
  new_edge i k l =
      let p = lead_number i l in
      ap (λ (j : ℕ). to new j k) (sym p.1) ∙ num.same_edge old new splits block leader root states m n (lead i) k p.0

  same_lead : (j i k : ℕ) → 0 < j → j ≤ length splits → i < size new → target_block new (λ i. h.at j (lead i)) i k ≡ target_block old (h.at j) (lead i) k
  same_lead j i k p q l = ap (option_map (λ i. h.at j (lead i))) (new_edge i k l) ∙ go (to old (lead i) k) refl
    where
      go : (o : Option ℕ) → to old (lead i) k ≡ o →
          option_map (λ i. h.at j (lead i)) (option_map (num.number old new splits block leader root states m n) o) ≡ option_map (h.at j) o
      go None e = refl
      go (Some t) e =
          let i_in = (lead_number i l).0 in
          let t_in = num.stays_in old new splits block leader root states m n (lead i) t k i_in e in
          let slot = num.number_slot old new splits block leader root states m n t t_in in
          let here = used_leader (size old) block leader states n.used m.leaders (num.number old new splits block leader root states m n t) slot.0 in
          ap Some (known_before old splits block h (length splits - j) j (lead (num.number old new splits block leader root states m n t)) t (omega arith) p here.0 t_in.0 (here.1 ∙ slot.1))

  pub history_numbered : IsHistory new splits (slice_index states)
  history_numbered = record {
    at = λ j i. h.at j (lead i);
    last = λ i l. let p = lead_in i l in h.last (lead i) p.0 ∙ p.1;
    below = λ j i p q l. h.below j (lead i) p q (lead_in i l).0;
    step = λ j i p q l. h.step j (lead i) p q (lead_in i l).0;
    parted = λ j i g p q l m e f. apart j i g (split_at splits j).symbol p q l m (h.parted j (lead i) (lead g) p q (lead_in i l).0 (lead_in g m).0 e f);
  }
    where
      apart : (j i g : ℕ) (k : Option ℕ) → 0 < j → j < length splits → i < size new → g < size new → ArePartedBy old (h.at j) k (lead i) (lead g) → ArePartedBy new (λ i. h.at j (lead i)) k i g
      apart j i g None p q l m d = λ e. d (sym (n.marks i (in_states i l)) ∙ e ∙ n.marks g (in_states g m))
      apart j i g (Some k) p q l m d = λ e. d (sym (same_lead j i k p (omega arith) l) ∙ e ∙ same_lead j g k p (omega arith) m)
