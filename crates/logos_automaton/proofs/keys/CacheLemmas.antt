-- States of trees and their steps, which are added together.
use Rattle.std.proofs.Common.{◌≡◌, ℕ, zero, suc, ◌<◌, ◌≤◌, ◌⊎◌, Bool, true, false, ◌&&◌, if◌then◌else◌, List, [], ◌∷◌, ◌++◌, None, Some, length, length-append, slice_get, refl, sym, ap, ◌∙◌, subst, inl, inr, ⊎_elim, rules, arith}
use Rattle.std.proofs.lemmas.Bool.{and_parts, eqb-true}
use Rattle.std.proofs.lemmas.Option.{same_Some}
use lib.Pointwise.{pointwise, bytes_decides}
use lib.Dec.{eqb}
use denote.Enum.Bare.{sameb, same_true}
use Rattle.logos_automaton.specs.declared.tree_steps.TreeState.{TreeState}
use Rattle.logos_automaton.specs.declared.tree_steps.TreeSteps.{TreeSteps}
use Rattle.logos_automaton.specs.inside.Steps.{AreAlmostCached, AreCached, AreStepsFrom, HasSteps, IsTreeState, LacksLast, tree_view}
use Rattle.logos_positions.specs.contracts.positions.look.ByteKind.{the_type}
use Rattle.logos_positions.specs.declared.node.Node.{Node}

pub same_tree : (a b : TreeState) → (eqb a.tree b.tree && (pointwise eqb a.positions.items b.positions.items && sameb the_type a.kind b.kind)) ≡ true → tree_view b ≡ tree_view a
same_tree a b h =
    let p = and_parts _ _ h in
    let q = and_parts _ _ p.1 in
    let d : b.tree ≡ a.tree = sym (eqb-true a.tree b.tree p.0) in
    let e = sym ((bytes_decides a.positions.items b.positions.items).0 q.0) in
    let f = sym (same_true the_type (search rules) _ _ q.1) in
    λ i. record { tree = d i; positions = e i; kind = f i }

module _ {A : Type 0} where
  pub got_front : (xs ys : List A) (i : ℕ) (x : A) → slice_get xs i ≡ Some x → slice_get (xs ++ ys) i ≡ Some x
  got_front [] ys i x h = cc
  got_front (y ∷ xs) ys zero x h = h
  got_front (y ∷ xs) ys (suc i) x h = got_front xs ys i x h

  got_push : (xs : List A) (y : A) (i : ℕ) (x : A) → slice_get (xs ++ y ∷ []) i ≡ Some x → (slice_get xs i ≡ Some x) ⊎ ((i ≡ length xs) × (x ≡ y))
  got_push [] y zero x h = inr (refl, sym (same_Some _ _ h))
  got_push [] y (suc i) x h = cc
  got_push (z ∷ xs) y zero x h = inl h
  got_push (z ∷ xs) y (suc i) x h = ⊎_elim inl (λ u. inr (ap suc u.0, u.1)) (got_push xs y i x h)

  got_last : (xs : List A) (x : A) (i : ℕ) → i ≡ length xs → slice_get (xs ++ x ∷ []) i ≡ Some x
  got_last [] x i e = rw e refl
  got_last (y ∷ xs) x zero e = cc
  got_last (y ∷ xs) x (suc i) e = got_last xs x i (omega (arith, e))

  got_within : (xs : List A) (i : ℕ) (x : A) → slice_get xs i ≡ Some x → i < length xs
  got_within [] i x h = cc
  got_within (y ∷ xs) zero x h = omega arith
  got_within (y ∷ xs) (suc i) x h = let r = got_within xs i x h in omega (arith, r)

  none_past : (xs : List A) (i : ℕ) → slice_get xs i ≡ None → length xs ≤ i
  none_past [] i h = omega arith
  none_past (y ∷ xs) zero h = cc
  none_past (y ∷ xs) (suc i) h = let r = none_past xs i h in omega (arith, r)

module _ (nodes : List Node) (starts : List ℕ) where
  -- nothing is cached
  pub none_cached : (states : List TreeState) (all : List TreeSteps) → states ≡ [] → all ≡ [] → AreCached nodes starts states all
  none_cached states all none nothing = rw (none, nothing) (record { count = refl; are = λ i state at. cc })

  -- a state is added, if it is new
  pub almost : (states : List TreeState) (state : TreeState) (there : Bool) (new : List TreeState) (all : List TreeSteps) → new ≡ (if there then states else states ++ state ∷ []) →
      IsTreeState nodes starts (tree_view state) → AreCached nodes starts states all → AreAlmostCached nodes starts new all
  almost states state true new all e there cached = inl (subst (λ ss. AreCached nodes starts ss all) (sym e) cached)
  almost states state false new all e there cached = inr (record { before = states; last = state; is = e; state = there; cached = cached })

  -- the last state has no steps where there are fewer steps than states
  pub lacking : (states : List TreeState) (all : List TreeSteps) (state : TreeState) → slice_get states (length all) ≡ Some state → AreAlmostCached nodes starts states all →
      LacksLast nodes starts states all × IsTreeState nodes starts (tree_view state)
  lacking states all state at almost =
      ⊎_elim
      (λ c. let w = got_within states (length all) state at in absurd (omega (arith, w, c.count)))
      (λ l. (l, is_last l))
      almost
    where
      is_last : (l : LacksLast nodes starts states all) → IsTreeState nodes starts (tree_view state)
      is_last l = ⊎_elim
          (λ h. let w = got_within l.before (length all) state h in absurd (omega (arith, w, l.cached.count)))
          (λ u. subst (λ (s : TreeState). IsTreeState nodes starts (tree_view s)) (sym u.1) l.state)
          (got_push l.before l.last (length all) state (rw l.is at at))

  -- all states have their steps where there are as many
  pub complete : (states : List TreeState) (all : List TreeSteps) → slice_get states (length all) ≡ None → AreAlmostCached nodes starts states all → AreCached nodes starts states all
  complete states all past almost =
      ⊎_elim
      (λ c. c)
      (λ l.
      let n = none_past states (length all) past in
      let e = ap length l.is in
      let m = length-append l.before (l.last ∷ []) in
      absurd (omega (arith, n, e, m, l.cached.count)))
      almost

  -- the steps from the last state are added
  pub cached_more : (states : List TreeState) (all : List TreeSteps) (state : TreeState) (steps : TreeSteps) → slice_get states (length all) ≡ Some state → LacksLast nodes starts states all →
      AreStepsFrom nodes starts (tree_view state) steps.found.items steps.by_byte 256 → AreCached nodes starts states (all ++ steps ∷ [])
  cached_more states all state steps at l are =
      let m = length-append l.before (l.last ∷ []) in
      let n = length-append all (steps ∷ []) in
      let e = ap length l.is in
      record {
        count = omega (arith, m, n, e, l.cached.count);
        are = λ i other there.
            ⊎_elim
            (λ h.
            let old = l.cached.are i other h in
            record { steps = old.steps; at = got_front all (steps ∷ []) i old.steps old.at; are = old.are })
            (λ u.
            let here : i ≡ length all = omega (arith, u.0, l.cached.count) in
            let same : Some other ≡ Some state = sym there ∙ ap (slice_get states) here ∙ at in
            record {
              steps = steps;
              at = got_last all steps i here;
              are = subst (λ (s : TreeState). AreStepsFrom nodes starts (tree_view s) steps.found.items steps.by_byte 256) (sym (same_Some _ _ same)) are;
            })
            (got_push l.before l.last i other (rw l.is at there));
      }

  -- the index of an equal state is that of the state
  pub has_by : (all : List TreeSteps) (states : List TreeState) (state other : TreeState) (i : ℕ) → AreCached nodes starts states all → slice_get states i ≡ Some other → tree_view other ≡ tree_view state →
      HasSteps nodes starts all (tree_view state) i
  has_by all states state other i cached at same = subst (λ v. HasSteps nodes starts all v i) same (cached.are i other at)
