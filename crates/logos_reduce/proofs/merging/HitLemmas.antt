-- The states that lead into a block part the blocks that they are in.
use Rattle.std.proofs.Common.{◌≡◌, ◌≢◌, ℕ, ◌<◌, ◌≤◌, ◌+◌, ◌++◌, ◌⊎◌, inl, inr, true, Vec, Global, slice_index, List, [], ◌∷◌, length, arith, refl, sym, ◌∙◌, ap, subst, Option, Some, None, option_map}
use Rattle.std.proofs.lemmas.Bool.{cases_lt}
use Rattle.std.proofs.lemmas.Bool.Decides.{eqb_tells}
use Rattle.std.proofs.lemmas.Grind.{common_steps}
use Rattle.logos_reduce.specs.Merge.{target_block, ArePartedBy, split_at}
use Rattle.logos_reduce.specs.inside.Merge.{AreTwins, Continues, block_before, IsExtension}
use Rattle.logos_reduce.specs.Lists.{has, has_in, ArePredecessors}
use Rattle.logos_reduce.specs.inside.Lists.{twin_of, HaveMoved, AreSources, AreHits}
use Rattle.logos_reduce.specs.Table.{size, to}
use Rattle.logos_reduce.specs.declared.merge.blocks.Split.{Split}
use Rattle.logos_reduce.specs.declared.table.Table.{Table}
use Rattle.logos_reduce.proofs.tables.EdgeLemmas.{edge_within, edge_symbol}
use Rattle.logos_reduce.proofs.listings.ListLemmas.{has-push, has-push_at, has_index}
use Rattle.logos_reduce.proofs.merging.TwinLemmas.{twin_cases}
use Rattle.logos_reduce.proofs.merging.HistoryLemmas.{before_old, before_new}

-- the hits among the first i sources
pub record HitsSoFar (n i : ℕ) (target_block : ℕ → ℕ → Option ℕ) (sources hits : List ℕ) (b k : ℕ) : Type 0 where
  pub inside : (j : ℕ) → j < length hits → slice_index hits j < n
  pub lead_in : (j : ℕ) → j < length hits → target_block (slice_index hits j) k ≡ Some b
  pub all : (j : ℕ) → j < i → slice_index sources j < n → target_block (slice_index sources j) k ≡ Some b → has hits (slice_index sources j) ≡ true

pub hits-taken : (n i : ℕ) (target_block : ℕ → ℕ → Option ℕ) (sources hits hits' : List ℕ) (b k : ℕ) → HitsSoFar n i target_block sources hits b k →
    (slice_index sources i < n) × (target_block (slice_index sources i) k ≡ Some b) → hits' ≡ hits ++ slice_index sources i ∷ [] → HitsSoFar n (i + 1) target_block sources hits' b k
hits-taken n i target_block sources hits hits' b k h p e =
    let s : ℕ = slice_index sources i in
    let at : (j : ℕ) → j < length hits' → ((j < length hits) × (slice_index hits' j ≡ slice_index hits j)) ⊎ (slice_index hits' j ≡ s) =
    (λ j l. elim (cases_lt j (length hits)) [ inl x ↦ inl (x, grind (arith, common_steps)) | inr g ↦ inr (grind (arith, common_steps)) ]) in
    record {
      inside = λ j l. elim (at j l) [ inl x ↦ let y = h.inside j x.0 in omega (arith, x.1) | inr x ↦ omega (arith, x, p.0) ];
      lead_in = λ j l. elim (at j l) [ inl x ↦ ap (λ (v : ℕ). target_block v k) x.1 ∙ h.lead_in j x.0 | inr x ↦ ap (λ (v : ℕ). target_block v k) x ∙ p.1 ];
      all = λ j l m q. elim (eqb_tells j i) [
        | inl x ↦ rw e (rw x.1 (has-push_at hits s))
        | inr d ↦ rw e (has-push hits s (slice_index sources j) (h.all j (omega (arith, d.1)) m q))
      ];
    }

pub hits-skipped : (n i : ℕ) (target_block : ℕ → ℕ → Option ℕ) (sources hits hits' : List ℕ) (b k : ℕ) → HitsSoFar n i target_block sources hits b k →
    ((slice_index sources i < n) × (target_block (slice_index sources i) k ≡ Some b) → ⊥) → hits' ≡ hits → HitsSoFar n (i + 1) target_block sources hits' b k
hits-skipped n i target_block sources hits hits' b k h p e = record {
  inside = λ j l. rw e (h.inside j (rw e at l));
  lead_in = λ j l. rw e (h.lead_in j (rw e at l));
  all = λ j l m q. elim (eqb_tells j i) [
    | inl x ↦ absurd (p (rw x.1 at m, rw x.1 at q))
    | inr d ↦ rw e (h.all j (omega (arith, d.1)) m q)
  ];
}

pub hits-all : (n : ℕ) (target_block : ℕ → ℕ → Option ℕ) (sources hits : List ℕ) (b k : ℕ) → HitsSoFar n (length sources) target_block sources hits b k → AreHits n target_block sources hits b k
hits-all n target_block sources hits b k h = record {
  inside = h.inside;
  lead_in = h.lead_in;
  all = λ s l e q. let p = has_index sources s e in
      let m : slice_index sources p.0 < n = rw p.2 l in
      let r : target_block (slice_index sources p.0) k ≡ Some b = rw p.2 q in
      ap (has hits) (sym p.2) ∙ h.all p.0 p.1 m r;
}

-- the predecessors of the states of a block are its sources
pub sources-found : (table : Table) (block : ℕ → ℕ) (from : List (Vec ℕ Global)) (sources : List ℕ) (b : ℕ) → ArePredecessors (size table) 257 (to table) from →
    ((t s : ℕ) → t < size table → block t ≡ b → has_in from t s ≡ true → has sources s ≡ true) → AreSources (size table) (target_block table block) sources b
sources-found table block from sources b preds found s k hs e = go (to table s k) refl e
  where
    go : (o : Option ℕ) → to table s k ≡ o → option_map block o ≡ Some b → has sources s ≡ true
    go None q e = absurd (cc)
    go (Some t) q e = found t s (edge_within table s k t q).1 (let same : block t ≡ b = cc in same) (preds.all s k t hs (edge_symbol table s k t q) q)

-- sources of a block are sources of the rest of it
pub sources-stay : (table : Table) (splits more : List Split) (old new : ℕ → ℕ) (sources : List ℕ) (b : ℕ) → b < length splits → IsExtension table splits more old new →
    AreSources (size table) (target_block table old) sources b → AreSources (size table) (target_block table new) sources b
sources-stay table splits more old new sources b l x from s k hs e = go (to table s k) refl e
  where
    go : (o : Option ℕ) → to table s k ≡ o → option_map new o ≡ Some b → has sources s ≡ true
    go None q e = absurd (cc)
    go (Some t) q e =
        let same : new t ≡ b = cc in
        let was : old t ≡ b = x.before t (edge_within table s k t q).1 ∙ ap (block_before more (length splits)) same ∙ before_old more (length splits) b l in
        from s k hs (ap (option_map old) q ∙ ap Some was)

module _ (table : Table) (splits more : List Split) (old new twins hits sources : List ℕ) (lists : List (Vec ℕ Global)) (b k : ℕ)
    (h : HaveMoved (size table) (length hits) (length splits) old new twins hits lists) (tw : AreTwins (length splits) k twins more) (on : Continues splits more)
    (within_old : (s : ℕ) → s < size table → slice_index old s < length splits) (within : (s : ℕ) → s < size table → slice_index new s < length more)
    (are : AreHits (size table) (target_block table (slice_index old)) sources hits b k) (from : AreSources (size table) (target_block table (slice_index old)) sources b) where
  fresh : ℕ
  fresh = length splits

  at_hit : (s : ℕ) → has hits s ≡ true → slice_index new s ≡ twin_of twins (length splits) (slice_index old s)
  at_hit s e =
      let p = has_index hits s e in
      ap (slice_index new) (sym p.2) ∙ h.moved p.0 p.1 ∙ ap (λ (x : ℕ). twin_of twins (length splits) (slice_index old x)) p.2

  -- where a state was is known from where it is
  was : (s : ℕ) → s < size table → slice_index old s ≡ block_before more (length splits) (slice_index new s)
  was s hs = elim (h.stays s hs) [
    | inl e ↦ sym (ap (block_before more (length splits)) e ∙ before_old more (length splits) (slice_index old s) (within_old s hs))
    | inr p ↦ elim (twin_cases twins (length splits) (slice_index old s)) [
      | inl q ↦ sym (ap (block_before more (length splits)) (p.1 ∙ q.1) ∙ before_new more (length splits) (slice_index twins (slice_index old s)) q.0 ∙ (tw.named (slice_index old s) q.0).1)
      | inr q ↦ sym (ap (block_before more (length splits)) (p.1 ∙ q.1) ∙ before_old more (length splits) (slice_index old s) (within_old s hs))
    ]
  ]

  -- a state of a new block is hit
  is_hit : (j s : ℕ) → length splits ≤ j → s < size table → slice_index new s ≡ j → has hits s ≡ true
  is_hit j s l hs e = elim (h.stays s hs) [
    | inl q ↦ absurd (let w = within_old s hs in omega (arith, q))
    | inr p ↦ p.0
  ]

  -- and one that has not left for it is not
  not_hit : (j t : ℕ) → length splits ≤ j → j < length more → slice_index new t ≢ j → slice_index old t ≡ (split_at more j).parent → has hits t ≡ true → ⊥
  not_hit j t l m ne e hit =
      let p = tw.paired j l m in
      let q : slice_index twins (slice_index old t) ≡ j = ap (slice_index twins) e ∙ p in
      elim (twin_cases twins (length splits) (slice_index old t)) [
        | inl z ↦ ne (at_hit t hit ∙ z.1 ∙ q)
        | inr z ↦ omega (arith, z.0, q)
      ]

  pub extension-hits : IsExtension table splits more (slice_index old) (slice_index new)
  extension-hits = record {
    continues = on;
    within = within;
    before = was;
    older = tw.older;
    parted = parted;
  }
    where
      parted : (j s t : ℕ) → length splits ≤ j → j < length more → s < size table → t < size table → slice_index new s ≡ j → slice_index new t ≢ j → slice_index old t ≡ (split_at more j).parent →
          ArePartedBy table (slice_index old) (split_at more j).symbol s t
      parted j s t l m hs ht e ne q =
          let here = has_index hits s (is_hit j s l hs e) in
          let leads : target_block table (slice_index old) s k ≡ Some b = ap (λ (v : ℕ). target_block table (slice_index old) v k) (sym here.2) ∙ are.lead_in here.0 here.1 in
          subst (λ (x : Option ℕ). ArePartedBy table (slice_index old) x s t) (sym (tw.by j l m))
          (λ same.
          let too : target_block table (slice_index old) t k ≡ Some b = sym same ∙ leads in
          not_hit j t l m ne q (are.all t ht (from t k ht too) too))
