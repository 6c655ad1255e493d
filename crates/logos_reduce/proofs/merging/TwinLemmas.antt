-- Parting blocks by the states that are hit.
use Rattle.std.proofs.Common.{◌≡◌, ◌≢◌, ℕ, ◌<◌, ◌≤◌, ◌+◌, ◌++◌, ◌⊎◌, inl, inr, Vec, Global, slice_index, slice_set, List, [], ◌∷◌, length, arith, refl, sym, ◌∙◌, ap, Some, None}
use Rattle.std.proofs.lemmas.Bool.{cases_lt}
use Rattle.std.proofs.lemmas.Bool.Decides.{eqb_tells, nat_tests}
use Rattle.std.proofs.lemmas.Grind.{common_steps}
use Rattle.std.proofs.lemmas.List.{get_or_append_left, get_or_push}
use Rattle.logos_reduce.specs.Merge.{split_at}
use Rattle.logos_reduce.specs.inside.Merge.{AreTwins, Continues}
use Rattle.logos_reduce.specs.Lists.{has}
use Rattle.logos_reduce.specs.inside.Lists.{AreFiled, twin_of, landing, HaveMoved}
use Rattle.logos_reduce.specs.declared.merge.blocks.Split.{Split}
use Rattle.logos_reduce.proofs.listings.ListLemmas.{has-get}

-- where no block has a new one
pub no_twins : (fresh k : ℕ) (twins : List ℕ) (splits : List Split) → length splits ≡ fresh → ((c : ℕ) → slice_index twins c < fresh) → AreTwins fresh k twins splits
no_twins fresh k twins splits e below = record {
  named = λ c l. let b = below c in absurd (omega arith);
  paired = λ j l m. absurd (omega arith);
  older = λ j l m. absurd (omega arith);
  by = λ j l m. absurd (omega arith);
}

pub continues_same : (splits : List Split) → Continues splits splits
continues_same splits = record { longer = omega arith; same = λ j l. refl }

pub continues_on : (a b c : List Split) → Continues a b → Continues b c → Continues a c
continues_on a b c x y = record {
  longer = let p = x.longer in let q = y.longer in omega arith;
  same = λ j l. y.same j (let p = x.longer in omega arith) ∙ x.same j l;
}

pub continues_push : (splits more : List Split) (new : Split) → more ≡ splits ++ new ∷ [] → Continues splits more
continues_push splits more new e = record {
  longer = grind (arith, common_steps);
  same = λ j l. ap (λ (xs : List Split). split_at xs j) e ∙ get_or_append_left splits (new ∷ []) (record { parent = 0; symbol = None }) j l;
}

-- one more new block
pub twins_more : (fresh k block : ℕ) (twins twins' : List ℕ) (splits more : List Split) → AreTwins fresh k twins splits → fresh ≤ length splits → block < fresh → block < length twins →
    slice_index twins block < fresh → twins' ≡ slice_set twins block (length splits) → more ≡ splits ++ record { parent = block; symbol = Some k } ∷ [] → AreTwins fresh k twins' more
twins_more fresh k block twins twins' splits more h some old room free e q = record {
  named = λ c l. elim (eqb_tells c block) [
    | inl x ↦
        let at : slice_index twins' c ≡ length splits = ap (λ (xs : List ℕ). slice_index xs c) e ∙ grind (arith, common_steps, x.1) in
        (omega (arith, at, size), ap (λ (j : ℕ). (split_at more j).parent) at ∙ ap (λ (x : Split). x.parent) new ∙ sym x.1)
    | inr d ↦
        let at : slice_index twins' c ≡ slice_index twins c = ap (λ (xs : List ℕ). slice_index xs c) e ∙ grind (arith, common_steps, d.1) in
        let p = h.named c (omega (arith, at)) in
        (omega (arith, at, p.0, size), ap (λ (j : ℕ). (split_at more j).parent) at ∙ ap (λ (x : Split). x.parent) (front (slice_index twins c) p.0) ∙ p.1)
  ];
  paired = λ j l m. elim (eqb_tells j (length splits)) [
    | inl x ↦
        let at : (split_at more j).parent ≡ block = ap (λ (j : ℕ). (split_at more j).parent) x.1 ∙ ap (λ (x : Split). x.parent) new in
        ap (slice_index twins') at ∙ ap (λ (xs : List ℕ). slice_index xs block) e ∙ grind (arith, common_steps, x.1)
    | inr d ↦
        let lt : j < length splits = omega (arith, d.1, size) in
        let p = h.paired j l lt in
        let at : (split_at more j).parent ≡ (split_at splits j).parent = ap (λ (x : Split). x.parent) (front j lt) in
        let ne : (split_at splits j).parent ≢ block = (λ z. let w = ap (slice_index twins) z in omega (arith, p, w, free)) in
        ap (slice_index twins') at ∙ ap (λ (xs : List ℕ). slice_index xs (split_at splits j).parent) e ∙ grind (arith, common_steps)
  ];
  older = λ j l m. elim (eqb_tells j (length splits)) [
    | inl x ↦ let at : (split_at more j).parent ≡ block = ap (λ (j : ℕ). (split_at more j).parent) x.1 ∙ ap (λ (x : Split). x.parent) new in omega (arith, at)
    | inr d ↦
        let lt : j < length splits = omega (arith, d.1, size) in
        let at : (split_at more j).parent ≡ (split_at splits j).parent = ap (λ (x : Split). x.parent) (front j lt) in
        let p = h.older j l lt in omega (arith, at)
  ];
  by = λ j l m. elim (eqb_tells j (length splits)) [
    | inl x ↦ ap (λ (j : ℕ). (split_at more j).symbol) x.1 ∙ ap (λ (x : Split). x.symbol) new
    | inr d ↦
        let lt : j < length splits = omega (arith, d.1, size) in
        ap (λ (x : Split). x.symbol) (front j lt) ∙ h.by j l lt
  ];
}
  where
    none : Split
    none = record { parent = 0; symbol = None }

    made : Split
    made = record { parent = block; symbol = Some k }

    size : length more ≡ length splits + 1
    size = ap length q ∙ grind (arith, common_steps)

    new : split_at more (length splits) ≡ made
    new = ap (λ (xs : List Split). split_at xs (length splits)) q ∙ get_or_push splits made none (length splits) refl

    front : (j : ℕ) → j < length splits → split_at more j ≡ split_at splits j
    front j l = ap (λ (xs : List Split). split_at xs j) q ∙ get_or_append_left splits (made ∷ []) none j l

pub twin_cases : (twins : List ℕ) (fresh c : ℕ) → ((fresh ≤ slice_index twins c) × (twin_of twins fresh c ≡ slice_index twins c)) ⊎ ((slice_index twins c < fresh) × (twin_of twins fresh c ≡ c))
twin_cases twins fresh c = elim (cases_lt (slice_index twins c) fresh) [ inl l ↦ inr (l, grind (arith, nat_tests)) | inr g ↦ inl (g, grind (arith, nat_tests)) ]

landing-below : (twins : List ℕ) (fresh b : ℕ) → b < fresh → landing twins fresh b ≡ twin_of twins fresh b
landing-below twins fresh b l = grind (arith, nat_tests)

landing-above : (twins : List ℕ) (fresh b : ℕ) → fresh ≤ b → landing twins fresh b ≡ b
landing-above twins fresh b l = grind (arith, nat_tests)

pub moving-none : (n fresh : ℕ) (old twins hits : List ℕ) (lists : List (Vec ℕ Global)) → AreFiled n (slice_index old) lists → HaveMoved n 0 fresh old old twins hits lists
moving-none n fresh old twins hits lists filed = record {
  moved = λ j l. absurd (omega arith);
  stays = λ s l. inl refl;
  filed = filed;
}

pub moving-step : (n i fresh : ℕ) (old blocks blocks' twins hits : List ℕ) (lists lists' : List (Vec ℕ Global)) → HaveMoved n i fresh old blocks twins hits lists →
    i < length hits → slice_index hits i < n → ((s : ℕ) → s < n → slice_index old s < fresh) →
    slice_index blocks' (slice_index hits i) ≡ landing twins fresh (slice_index blocks (slice_index hits i)) →
    ((t : ℕ) → t ≢ slice_index hits i → slice_index blocks' t ≡ slice_index blocks t) → AreFiled n (slice_index blocks') lists' →
    HaveMoved n (i + 1) fresh old blocks' twins hits lists'
moving-step n i fresh old blocks blocks' twins hits lists lists' h within s_in below landed others filed =
    let s : ℕ = slice_index hits i in
    let here : slice_index blocks' s ≡ twin_of twins fresh (slice_index old s) = landed ∙ (elim (h.stays s s_in) [
      | inl e ↦ ap (landing twins fresh) e ∙ landing-below twins fresh (slice_index old s) (below s s_in)
      | inr p ↦ ap (landing twins fresh) p.1 ∙ (elim (twin_cases twins fresh (slice_index old s)) [
        | inl q ↦ landing-above twins fresh (twin_of twins fresh (slice_index old s)) (omega (arith, q.0, q.1))
        | inr q ↦ ap (landing twins fresh) q.1 ∙ landing-below twins fresh (slice_index old s) (below s s_in)
      ])
    ]) in
    record {
      moved = λ j l. elim (eqb_tells (slice_index hits j) s) [
        | inl e ↦ ap (slice_index blocks') e.1 ∙ here ∙ sym (ap (λ (x : ℕ). twin_of twins fresh (slice_index old x)) e.1)
        | inr d ↦ let lt : j < i = elim (eqb_tells j i) [ inl x ↦ absurd (d.1 (ap (slice_index hits) x.1)) | inr x ↦ omega (arith, x.1) ] in others (slice_index hits j) d.1 ∙ h.moved j lt
      ];
      stays = λ t l. elim (eqb_tells t s) [
        | inl e ↦ inr (ap (has hits) e.1 ∙ has-get hits i within, ap (slice_index blocks') e.1 ∙ here ∙ sym (ap (λ (x : ℕ). twin_of twins fresh (slice_index old x)) e.1))
        | inr d ↦ elim (h.stays t l) [ inl x ↦ inl (others t d.1 ∙ x) | inr x ↦ inr (x.0, others t d.1 ∙ x.1) ]
      ];
      filed = filed;
    }
