-- Setting early marks and removing late marks preserves the last mark, and the end of an error if
-- there is no mark.
use Rattle.std.proofs.Common.{◌≡◌, ◌↔◌, ℕ, ◌+◌, ◌<◌, ◌≤◌, ◌⊎◌, inl, inr, List, [], ◌∷◌, Option, Some, None, IsSome, refl, sym, ap, subst, arith}
use Rattle.std.specs.Option.{option_map_or}
use Rattle.logos_hir.specs.Text.{IsBytes}
use Rattle.logos_reduce.specs.Edges.{StateType, IsMarked, Edges, Leads, to_mark, onward, to_end}
use Rattle.logos_graph.specs.inside.Walk.{marked, last_mark, Covers}
use Rattle.logos_graph.proofs.Steps.{first_byte, other_bytes, no_mark, none_before}

module _ {S : Type 0} (next : S → ℕ → Option S) (at_end : S → Option S) where
  -- some step leads from the one state to the other
  pub data IsStep : S → S → Type 0 where
    by_byte : {s t : S} (b : ℕ) → b < 256 → next s b ≡ Some t → IsStep s t
    by_end : {s t : S} → at_end s ≡ Some t → IsStep s t

  -- every state to which one leads accepts the leaf, and every byte and the end lead to one
  pub record AllAccept (types : S → StateType) (s : S) (leaf : ℕ) : Type 0 where
    pub by_byte : (b : ℕ) → b < 256 → (t : S) × (next s b ≡ Some t) × ((types t).accept ≡ Some leaf)
    pub by_end : (t : S) × (at_end s ≡ Some t) × ((types t).accept ≡ Some leaf)

  -- the late mark of a state is kept, or each step into it comes from a state that is early for the
  -- same leaf
  abbrev pub IsKept : (S → StateType) → (S → StateType) → S → Type 0
  IsKept old new t =
      ((new t).accept ≡ (old t).accept) ⊎ ((leaf : ℕ) × ((old t).accept ≡ Some leaf) × ((new t).accept ≡ None) × ((s : S) → IsStep s t → (new s).early ≡ Some leaf))

  -- the new types have early marks, and only the late marks that are needed
  pub record AreSettled (old new : S → StateType) : Type 0 where
    pub late_only : (s : S) → (old s).early ≡ None
    pub early : (s : S) (leaf : ℕ) → (new s).early ≡ Some leaf → AllAccept old s leaf
    pub kept : (t : S) → IsKept old new t

-- the facts about the marks before a state that may be early
abbrev pub Agree : Option ℕ → ℕ → Option (ℕ × ℕ) → Option (ℕ × ℕ) → Type 0
Agree None at last last' = last ≡ last'
Agree (Some leaf) at last last' = last' ≡ Some (leaf, at)

-- one step: `e` is the early mark of the state before
pub agree_step : (x x' e' : Option ℕ) (e : Option ℕ) (at : ℕ) (last last' : Option (ℕ × ℕ)) →
    ((leaf : ℕ) → e ≡ Some leaf → x ≡ Some leaf) →
    (x' ≡ x) ⊎ ((leaf : ℕ) × (x ≡ Some leaf) × (x' ≡ None) × (e ≡ Some leaf)) →
    Agree e at last last' →
    Agree e' (at + 1) (marked (record { accept = x; early = None }) at last) (marked (record { accept = x'; early = e' }) at last')
agree_step x x' (Some l') e at last last' early kept a = refl
agree_step x x' None None at last last' early (inl k) a = rw (k, a) refl
agree_step x x' None None at last last' early (inr k) a = absurd (cc (k.3))
agree_step x x' None (Some l) at last last' early (inl k) a = rw (k, early l refl) refl
agree_step x x' None (Some l) at last last' early (inr k) a = rw (k.2, early l refl, a) refl

module _ {S : Type 0} (next : S → ℕ → Option S) (at_end : S → Option S) (old new : S → StateType) (h : AreSettled next at_end old new) where
  abbrev before : Edges S
  before = record { type_of = old; next = next; at_end = at_end }

  abbrev after : Edges S
  after = record { type_of = new; next = next; at_end = at_end }

  -- a child of an early state accepts its leaf
  child_accepts : (s t : S) (leaf : ℕ) → IsStep next at_end s t → (new s).early ≡ Some leaf → (old t).accept ≡ Some leaf
  child_accepts s t leaf (by_byte b ok e) m = let c = (h.early s leaf m).by_byte b ok in go c.0 c.1 c.2
    where
      go : (u : S) → next s b ≡ Some u → (old u).accept ≡ Some leaf → (old t).accept ≡ Some leaf
      go u q a = let same : u ≡ t = cc in rw same at a
  child_accepts s t leaf (by_end e) m = let c = (h.early s leaf m).by_end in go c.0 c.1 c.2
    where
      go : (u : S) → at_end s ≡ Some u → (old u).accept ≡ Some leaf → (old t).accept ≡ Some leaf
      go u q a = let same : u ≡ t = cc in rw same at a

  kept_for : (s t : S) → IsStep next at_end s t → IsKept next at_end old new t →
      ((new t).accept ≡ (old t).accept) ⊎ ((leaf : ℕ) × ((old t).accept ≡ Some leaf) × ((new t).accept ≡ None) × ((new s).early ≡ Some leaf))
  kept_for s t step (inl k) = inl k
  kept_for s t step (inr k) = inr (k.0, k.1, k.2, k.3 s step)

  step_agrees : (s t : S) (at : ℕ) (last last' : Option (ℕ × ℕ)) → IsStep next at_end s t → Agree (new s).early at last last' →
      Agree (new t).early (at + 1) (marked (old t) at last) (marked (new t) at last')
  step_agrees s t at last last' step a =
      let late : (old t).early ≡ None = h.late_only t in
      let r = agree_step (old t).accept (new t).accept (new t).early (new s).early at last last' (λ leaf. child_accepts s t leaf step) (kept_for s t step (h.kept t)) a in
      let e : record { accept = (old t).accept; early = None } ≡ old t = ap (λ x. record { accept = (old t).accept; early = x }) (sym late) in
      subst (λ (x : StateType). Agree (new t).early (at + 1) (marked x at last) (marked (new t) at last')) e r

  pub settled_marks : ((s t : S) → at_end s ≡ Some t → (new t).early ≡ None) → (rest : List ℕ) → IsBytes rest → (s : S) (at : ℕ) (last last' : Option (ℕ × ℕ)) →
      Agree (new s).early at last last' → last_mark before s rest at last ≡ last_mark after s rest at last'
  settled_marks ends [] ok s at last last' a = go (at_end s) refl
    where
      finish : (e : Option ℕ) → e ≡ (new s).early → Agree e at last last' → at_end s ≡ None → last ≡ last'
      finish None q a n = a
      finish (Some l) q a n = let c = (h.early s l (sym q)).by_end in absurd (cc (c.1))

      go : (o : Option S) → at_end s ≡ o → option_map_or (λ t. marked (old t) at last) o last ≡ option_map_or (λ t. marked (new t) at last') o last'
      go None e = finish (new s).early refl a e
      go (Some t) e = let r = step_agrees s t at last last' (by_end e) a in let r' = rw (ends s t e) at r in rw (ends s t e) r'
  settled_marks ends (b ∷ rest) ok s at last last' a = go (next s b) refl (settled_marks ends rest (other_bytes b rest ok))
    where
      finish : (e : Option ℕ) → e ≡ (new s).early → Agree e at last last' → next s b ≡ None → last ≡ last'
      finish None q a n = a
      finish (Some l) q a n = let c = (h.early s l (sym q)).by_byte b (first_byte b rest ok) in absurd (cc (c.1))

      go : (o : Option S) → next s b ≡ o →
          ((s : S) (at : ℕ) (last last' : Option (ℕ × ℕ)) → Agree (new s).early at last last' → last_mark before s rest at last ≡ last_mark after s rest at last') →
          option_map_or (λ t. last_mark before t rest (at + 1) (marked (old t) at last)) o last ≡ option_map_or (λ t. last_mark after t rest (at + 1) (marked (new t) at last')) o last'
      go None e ih = finish (new s).early refl a e
      go (Some t) e ih = ih t (at + 1) _ _ (step_agrees s t at last last' (by_byte b (first_byte b rest ok) e) a)

  was_marked : (t : S) → IsMarked (old t) → (leaf : ℕ) × ((old t).accept ≡ Some leaf)
  was_marked t m = go (old t).early (old t).accept (h.late_only t) m
    where
      go : (e a : Option ℕ) → e ≡ None → IsSome e ⊎ IsSome a → (leaf : ℕ) × (a ≡ Some leaf)
      go e (Some l) q m = (l, refl)
      go e None q (inl m) = let n : IsSome {T = ℕ} None = rw q at m in absurd (cc)
      go e None q (inr m) = absurd (cc)

  mark_kept : (s t : S) → IsStep next at_end s t → IsMarked (old t) → IsMarked (new t) ⊎ IsSome (new s).early
  mark_kept s t step m = go (h.kept t)
    where
      go : IsKept next at_end old new t → IsMarked (new t) ⊎ IsSome (new s).early
      go (inl k) = let w = was_marked t m in inl (inr (rw (k, w.1) refl))
      go (inr k) = inr (rw (k.3 s step) refl)

  pub leads_after : (s : S) → Leads before s → IsSome (new s).early ⊎ Leads after s
  leads_after s (to_mark {t = t} b ok e m) = go (mark_kept s t (by_byte b ok e) m)
    where
      go : IsMarked (new t) ⊎ IsSome (new s).early → IsSome (new s).early ⊎ Leads after s
      go (inl m) = inr (to_mark b ok e m)
      go (inr m) = inl m
  leads_after s (onward {t = t} b ok e l) = go (leads_after t l)
    where
      go : IsSome (new t).early ⊎ Leads after t → IsSome (new s).early ⊎ Leads after s
      go (inl m) = inr (to_mark b ok e (inl m))
      go (inr l) = inr (onward b ok e l)
  leads_after s (to_end {t = t} e m) = go (mark_kept s t (by_end e) m)
    where
      go : IsMarked (new t) ⊎ IsSome (new s).early → IsSome (new s).early ⊎ Leads after s
      go (inl m) = inr (to_end e m)
      go (inr m) = inl m

  early_leads : (t : S) → IsSome (new t).early → Leads before t
  early_leads t m = go (new t).early refl m
    where
      go : (e : Option ℕ) → (new t).early ≡ e → IsSome e → Leads before t
      go None q m = absurd (cc)
      go (Some l) q m = let c = (h.early t l q).by_byte 0 (omega arith) in to_mark 0 (omega arith) c.1 (inr (rw c.2 refl))

  late_was : (t : S) → IsSome (new t).accept → IsMarked (old t)
  late_was t m = go (h.kept t)
    where
      go : IsKept next at_end old new t → IsMarked (old t)
      go (inl k) = inr (rw k at m)
      go (inr k) = inr (rw k.1 refl)

  pub leads_before : ((s t : S) → at_end s ≡ Some t → (new t).early ≡ None) → (s : S) → Leads after s → Leads before s
  leads_before ends s (to_mark {t = t} b ok e (inl m)) = onward b ok e (early_leads t m)
  leads_before ends s (to_mark {t = t} b ok e (inr m)) = to_mark b ok e (late_was t m)
  leads_before ends s (onward {t = t} b ok e l) = onward b ok e (leads_before ends t l)
  leads_before ends s (to_end {t = t} e (inl m)) = let n : IsSome {T = ℕ} None = rw (ends s t e) at m in absurd (cc)
  leads_before ends s (to_end {t = t} e (inr m)) = to_end e (late_was t m)

  not_early : (o : Option ℕ) → o ≡ None → IsSome o → ⊥
  not_early None e m = cc
  not_early (Some x) e m = cc

  -- the same prefixes of the rest can be followed from each state, also where no mark is found
  abbrev Alike : List ℕ → Type 0
  Alike rest = (s : S) (at to : ℕ) → last_mark after s rest at None ≡ None → Covers before s rest at to ↔ Covers after s rest at to

  pub settled_covers : ((s t : S) → at_end s ≡ Some t → (new t).early ≡ None) → (rest : List ℕ) → IsBytes rest → Alike rest
  settled_covers ends [] ok s at to none = (λ c. c, λ c. c)
  settled_covers ends (b ∷ rest) ok s at to none =
      (λ c t e l. there (settled_covers ends rest (other_bytes b rest ok)) t e c l, λ c t e l. back (settled_covers ends rest (other_bytes b rest ok)) t e c (leads_after t l))
    where
      unmarked_on : (t : S) → next s b ≡ Some t → (marked (new t) at None ≡ None) × (last_mark after t rest (at + 1) None ≡ None)
      unmarked_on t e =
          let n : last_mark after t rest (at + 1) (marked (new t) at None) ≡ None = rw e at none in
          let m = none_before after rest t (at + 1) _ n in
          (m, rw m at n)

      there : Alike rest → (t : S) → next s b ≡ Some t → Covers before s (b ∷ rest) at to → Leads after t → (at + 1 ≤ to) × Covers after t rest (at + 1) to
      there ih t e c l =
          let u = unmarked_on t e in
          let d = c t e (leads_before ends t l) in
          (d.0, (ih t (at + 1) to u.1).0 d.1)

      back : Alike rest → (t : S) → next s b ≡ Some t → Covers after s (b ∷ rest) at to → IsSome (new t).early ⊎ Leads after t → (at + 1 ≤ to) × Covers before t rest (at + 1) to
      back ih t e c (inl m) = let u = unmarked_on t e in absurd (not_early (new t).early (no_mark (new t) at u.0).0 m)
      back ih t e c (inr l) = let u = unmarked_on t e in let d = c t e l in (d.0, (ih t (at + 1) to u.1).1 d.1)
