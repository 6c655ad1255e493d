-- Consequences of each node being in its component.
use Rattle.std.proofs.Common.{◌≡◌, ◌<◌, ◌≤◌, ◌+◌, ◌⊎◌, inl, inr, ⊎_elim, ℕ, zero, suc, List, [], ◌∷◌, length, drop, get_or, Some, refl, sym, ◌∙◌, subst, arith}
use Rattle.std.proofs.lemmas.List.Elements.{Contains-get_or}
use Rattle.std.proofs.lemmas.Option.{same_Some}
use Rattle.std.specs.List.{Contains, slice_get}
use Rattle.logos_type_params.specs.declared.cycles.evidence.Membership.{Membership}
use Rattle.logos_type_params.specs.cycles.Cycles.{targets_of, Leads, one, on}
use Rattle.logos_type_params.specs.cycles.inside.Memberships.{Edge, Follows, FollowAll, GoesToward, ComesFrom, StepsToward, StepsFrom, IsPlaced, IsEvidence, HasRoot, HasInner}
use Rattle.logos_type_params.proofs.cycles.ListLemmas.{front, contains_cases, contains_past, starts, join}

-- ---- one target after another

module _ (ps : List Membership) (p : Membership) (ts : List ℕ) (k : ℕ) where
  pub follow_step : k < length ts → ((next : Membership) → slice_get ps (get_or ts k 0) ≡ Some next → Follows p next) → FollowAll ps p (drop (k + 1) ts) → FollowAll ps p (drop k ts)
  follow_step lt here rest = rw (front ts k lt) (λ to h next e. ⊎_elim
      (λ (s : get_or ts k 0 ≡ to). here next (rw s e))
      (λ r. rest to r next e)
      (contains_cases (get_or ts k 0) (drop (k + 1) ts) to h))

  pub follow_none : length ts ≤ k → FollowAll ps p (drop k ts)
  follow_none past = λ to h next e. absurd (contains_past ts k to past h)

module _ (ps : List Membership) (root : ℕ) (ts : List ℕ) (k : ℕ) where
  pub inner_step : k < length ts → (HasRoot ps (get_or ts k 0) root → ⊥) → HasInner ps root (drop k ts) → HasInner ps root (drop (k + 1) ts)
  inner_step lt not_here i = ⊎_elim
      (λ (s : get_or ts k 0 ≡ i.to). absurd (not_here (rw s i.has)))
      (λ r. record { to = i.to; target = r; has = i.has })
      (contains_cases (get_or ts k 0) (drop (k + 1) ts) i.to (subst (λ (xs : List ℕ). Contains xs i.to) (front ts k lt) i.target))

  pub inner_none : length ts ≤ k → HasInner ps root (drop k ts) → ⊥
  inner_none past i = contains_past ts k i.to past i.target

  pub inner_found : k < length ts → HasRoot ps (get_or ts k 0) root → HasInner ps root ts
  inner_found lt here = record { to = get_or ts k 0; target = Contains-get_or ts k 0 lt; has = here }

-- ---- one membership

pub placed_here : (g : List (List ℕ)) (ps : List Membership) (node : ℕ) (p q : Membership) → slice_get ps node ≡ Some p → slice_get ps node ≡ Some q → GoesToward g ps node p → ComesFrom g ps node p →
    (ts : List ℕ) → ts ≡ targets_of g node → FollowAll ps p ts → IsPlaced g ps node q
placed_here g ps node p q ip iq toward from ts e follow =
    subst (λ (r : Membership). IsPlaced g ps node r) (same_Some p q (sym ip ∙ iq))
    (record { toward = toward; from = from; follow = subst (λ (xs : List ℕ). FollowAll ps p xs) e follow })

-- ---- the whole evidence

pub slot_at : (ps : List Membership) (node : ℕ) → node < length ps → (p : Membership) × (slice_get ps node ≡ Some p)
slot_at [] node lt = absurd (omega arith)
slot_at (p ∷ ps) zero lt = (p, refl)
slot_at (p ∷ ps) (suc node) lt = slot_at ps node (omega arith)

follows_on : (p q r : Membership) → Follows p q → Follows q r → Follows p r
follows_on p q r (inl a) (inl b) = inl (omega (arith, a, b))
follows_on p q r (inl a) (inr b) = inl (omega (arith, a, b.0))
follows_on p q r (inr a) (inl b) = inl (omega (arith, a.0, b))
follows_on p q r (inr a) (inr b) = inr (a.0 ∙ b.0, a.1 ∙ b.1)

-- no later component leads back
same_root : (p q : Membership) → Follows p q → Follows q p → q.root ≡ p.root
same_root p q (inl a) (inl b) = absurd (omega (arith, a, b))
same_root p q (inl a) (inr b) = absurd (omega (arith, a, b.0))
same_root p q (inr a) b = sym a.1

-- a node is another or leads to it
abbrev Meets : List (List ℕ) → ℕ → ℕ → Type 0
Meets g from to = (from ≡ to) ⊎ Leads g from to

meet_on : (g : List (List ℕ)) (from over to : ℕ) → Meets g from over → Meets g over to → Meets g from to
meet_on g from over to (inl e) m = subst (λ (x : ℕ). Meets g x to) (sym e) m
meet_on g from over to (inr l) (inl e) = inr (subst (λ (x : ℕ). Leads g from x) e l)
meet_on g from over to (inr l) (inr m) = inr (join l m)

module _ (g : List (List ℕ)) (ps : List Membership) (ev : IsEvidence g ps) where
  -- a node is its root or leads to it
  to_root : (n node : ℕ) (p : Membership) → slice_get ps node ≡ Some p → p.to_rank < n → Meets g node p.root
  to_root zero node p is lt = absurd (omega (arith, lt))
  to_root (suc n) node p is lt = ⊎_elim
      (λ (e : p.root ≡ node). inl (sym e))
      (λ (s : StepsToward g ps node p). meet_on g node s.to p.root (inr (one s.edge))
      (subst (λ (r : ℕ). Meets g s.to r) s.root (to_root n s.to s.next s.is (let k = s.nearer in omega (arith, k, lt)))))
      (ev.placed node p is).toward

  from_root : (n node : ℕ) (p : Membership) → slice_get ps node ≡ Some p → p.from_rank < n → Meets g p.root node
  from_root zero node p is lt = absurd (omega (arith, lt))
  from_root (suc n) node p is lt = ⊎_elim
      (λ (e : p.root ≡ node). inl e)
      (λ (s : StepsFrom g ps node p). meet_on g p.root s.from node
      (subst (λ (r : ℕ). Meets g r s.from) s.root (from_root n s.from s.before s.is (let k = s.nearer in omega (arith, k, lt))))
      (inr (one s.edge)))
      (ev.placed node p is).from

  -- a node to which a node leads is of its component or of a later one
  later : (from to : ℕ) (p q : Membership) → slice_get ps from ≡ Some p → slice_get ps to ≡ Some q → Leads g from to → Follows p q
  later from to p q ip iq (one h) = (ev.placed from p ip).follow to h q iq
  later from to p q ip iq (on {over = over} h l) =
      let o = slot_at ps over (let w = starts g over to l in let s = ev.same_length in omega (arith, w, s)) in
      follows_on p o.0 q ((ev.placed from p ip).follow over h o.0 o.1) (later over to o.0 q o.1 iq l)

  module _ (node : ℕ) (p : Membership) (is : slice_get ps node ≡ Some p) where
    closes : (to : ℕ) → Edge g node to → Meets g to node → Leads g node node
    closes to h (inl e) = one (subst (λ (x : ℕ). Edge g node x) e h)
    closes to h (inr l) = on h l

    pub inner_leads : HasInner ps p.root (targets_of g node) → Leads g node node
    inner_leads i =
        let q = i.has.membership in
        closes i.to i.target (meet_on g i.to p.root node
        (subst (λ (r : ℕ). Meets g i.to r) i.has.same (to_root (suc q.to_rank) i.to q i.has.is (omega arith)))
        (from_root (suc p.from_rank) node p is (omega arith)))

    pub leads_inner : Leads g node node → HasInner ps p.root (targets_of g node)
    leads_inner (one h) = record { to = node; target = h; has = record { membership = p; is = is; same = refl } }
    leads_inner (on {over = over} h l) =
        let o = slot_at ps over (let w = starts g over node l in let s = ev.same_length in omega (arith, w, s)) in
        record {
          to = over;
          target = h;
          has = record {
            membership = o.0;
            is = o.1;
            same = same_root p o.0 ((ev.placed node p is).follow over h o.0 o.1) (later over node o.0 p o.1 is l);
          };
        }
