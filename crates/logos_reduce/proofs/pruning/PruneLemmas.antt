-- The states that have a mark or lead to one.
use Rattle.std.proofs.Common.{◌≡◌, ◌↔◌, ℕ, ◌+◌, ◌<◌, ◌≤◌, ◌⊎◌, inl, inr, Bool, true, false, List, length, slice_index, vec_len, Vec, Global, get_or, nat_eq, Option, Some, None, refl, sym, ◌∙◌, ap, subst, arith}
use Rattle.std.proofs.lemmas.Bool.{cases_lt}
use Rattle.std.proofs.lemmas.Bool.Decides.{nat_tests}
use Rattle.logos_reduce.specs.Lists.{has, has_in, ArePredecessors}
use Rattle.logos_reduce.specs.Table.{size, to, edges}
use Rattle.logos_reduce.specs.inside.Prune.{IsSeed, AreUseful, met_target}
use Rattle.logos_reduce.specs.Prune.{IsOfUse, IsPrunedTable}
use Rattle.logos_reduce.specs.Order.{IsOrder, IsMet}
use Rattle.logos_reduce.specs.inside.Order.{Grows}
use Rattle.logos_reduce.specs.Edges.{Leads, to_mark, onward, to_end}
use Rattle.logos_reduce.specs.declared.table.StateMarks.{StateMarks}
use Rattle.logos_reduce.specs.declared.table.Table.{Table}
use Rattle.logos_reduce.proofs.listings.ListLemmas.{has-get, has_in-get}
use Rattle.logos_reduce.proofs.orders.OrderLemmas.{met_kept, met_slot, slot_kept}
use Rattle.logos_reduce.proofs.tables.EdgeLemmas.{edge_within, no_edge}

-- the states of the list that are met by now
pub met_more : (list old new : List ℕ) (i : ℕ) → Grows old new → ((j : ℕ) → j < i → IsMet old (slice_index list j)) → IsMet new (slice_index list i) →
    (j : ℕ) → j < i + 1 → IsMet new (slice_index list j)
met_more list old new i g all one j l = go (cases_lt j i)
  where
    go : (j < i) ⊎ (i ≤ j) → IsMet new (slice_index list j)
    go (inl m) = met_kept old new g (slice_index list j) (all j m)
    go (inr m) = let e : i ≡ j = omega arith in subst (λ j. IsMet new (slice_index list j)) e one

-- a state that is visited was visited before, or is in the list
pub met_of : (list first old new : List ℕ) (i : ℕ) → i < length list → ((s : ℕ) → IsMet old s → IsMet first s ⊎ (has list s ≡ true)) →
    ((s : ℕ) → IsMet new s → IsMet old s ⊎ (s ≡ slice_index list i)) → (s : ℕ) → IsMet new s → IsMet first s ⊎ (has list s ≡ true)
met_of list first old new i l all only s m = go (only s m)
  where
    go : IsMet old s ⊎ (s ≡ slice_index list i) → IsMet first s ⊎ (has list s ≡ true)
    go (inl h) = all s h
    go (inr e) = inr (ap (has list) e ∙ has-get list i l)

-- the seeds that are met by now
pub seeds_more : (table : Table) (s : ℕ) (old new : List ℕ) (wanted : Bool) → Grows old new → (wanted ≡ true ↔ IsSeed table s) →
    ((t : ℕ) → IsMet old t → IsSeed table t) → ((t : ℕ) → t < s → IsSeed table t → IsMet old t) → (wanted ≡ true → IsMet new s) →
    ((t : ℕ) → IsMet new t → IsMet old t ⊎ ((t ≡ s) × (wanted ≡ true))) →
    ((t : ℕ) → IsMet new t → IsSeed table t) × ((t : ℕ) → t < s + 1 → IsSeed table t → IsMet new t)
seeds_more table s old new wanted g decided sound all one only = (λ t m. there t (only t m), λ t l k. back t k (cases_lt t s) l)
  where
    there : (t : ℕ) → IsMet old t ⊎ ((t ≡ s) × (wanted ≡ true)) → IsSeed table t
    there t (inl m) = sound t m
    there t (inr e) = subst (IsSeed table) (sym e.0) (decided.0 e.1)

    back : (t : ℕ) → IsSeed table t → (t < s) ⊎ (s ≤ t) → t < s + 1 → IsMet new t
    back t k (inl m) l = met_kept old new g t (all t m k)
    back t k (inr m) l = let e : t ≡ s = omega arith in subst (IsMet new) (sym e) (one (decided.1 (subst (IsSeed table) e k)))

-- a seed is of use
pub seed_of_use : (table : Table) (s : ℕ) → IsSeed table s → IsOfUse table s
seed_of_use table s (inl m) = inl m
seed_of_use table s (inr e) = inr (to_end e.1 e.2)

-- a state that leads to a state that is of use is of use too
pub use_before : (table : Table) (s b t : ℕ) → b < 256 → to table s b ≡ Some t → IsOfUse table t → IsOfUse table s
use_before table s b t l e (inl m) = inr (to_mark b l e m)
use_before table s b t l e (inr h) = inr (onward b l e h)

-- an order that has the seeds, and with a state all that lead to it, has all that are of use
pub all_of_use : (table : Table) (numbers states : List ℕ) → IsOrder numbers states → ((s : ℕ) → s < size table → IsSeed table s → IsMet numbers s) →
    ((j s b : ℕ) → j < length states → b < 256 → to table s b ≡ Some (slice_index states j) → IsMet numbers s) →
    (s : ℕ) → s < size table → IsOfUse table s → IsMet numbers s
all_of_use table numbers states h seeds closed s l (inl m) = seeds s l (inl m)
all_of_use table numbers states h seeds closed s l (inr m) = leads s l m
  where
    from_met : (s b t : ℕ) → b < 256 → to table s b ≡ Some t → IsMet numbers t → IsMet numbers s
    from_met s b t l e m = let p = met_slot numbers states h t m in closed p.0 s b p.1 l (e ∙ ap Some (sym p.2))

    leads : (s : ℕ) → s < size table → Leads (edges table) s → IsMet numbers s
    leads s l (to_mark {t = t} b k e m) = from_met s b t k e (seeds t (edge_within table s b t e).1 (inl m))
    leads s l (onward {t = t} b k e m) = from_met s b t k e (leads t (edge_within table s b t e).1 m)
    leads s l (to_end {t = t} e m) = seeds s l (inr (t, e, m))

module _ (table : Table) (from : List (Vec ℕ Global)) (preds : ArePredecessors (size table) 256 (to table) from) (size_of : length from ≡ size table) (t : ℕ) (at : t < size table)
    (list : Vec ℕ Global) (listed : list ≡ get_or from t list) where
  in_list : (s : ℕ) → has_in from t s ≡ has list.items s
  in_list s = has_in-get from t list s (omega arith) listed

  -- the states of the list of a state lead to it
  pub listed_within : (s : ℕ) → has list.items s ≡ true → s < size table
  listed_within s h = let p = preds.only t s (in_list s ∙ h) in (edge_within table s p.0 t p.2).0

  -- they are of use if it is
  pub sound_more : (old new : List ℕ) → ((s : ℕ) → IsMet old s → IsOfUse table s) → IsOfUse table t →
      ((s : ℕ) → IsMet new s → IsMet old s ⊎ (has list.items s ≡ true)) → (s : ℕ) → IsMet new s → IsOfUse table s
  sound_more old new sound of_use only s m = go (only s m)
    where
      go : IsMet old s ⊎ (has list.items s ≡ true) → IsOfUse table s
      go (inl h) = sound s h
      go (inr h) = let p = preds.only t s (in_list s ∙ h) in use_before table s p.0 t p.1 p.2 of_use

  -- all that lead to the first states are met
  pub closed_more : (old old_states new new_states : List ℕ) → IsOrder old old_states → IsOrder new new_states → Grows old new → (i : ℕ) → i < length old_states → slice_index old_states i ≡ t →
      ((j s b : ℕ) → j < i → b < 256 → to table s b ≡ Some (slice_index old_states j) → IsMet old s) → ((s : ℕ) → has list.items s ≡ true → IsMet new s) →
      (j s b : ℕ) → j < i + 1 → b < 256 → to table s b ≡ Some (slice_index new_states j) → IsMet new s
  closed_more old old_states new new_states h k g i l e closed all j s b m n q = go (cases_lt j i)
    where
      slot : slice_index new_states j ≡ slice_index old_states j
      slot = (slot_kept old old_states new new_states h k g j (omega arith)).1

      go : (j < i) ⊎ (i ≤ j) → IsMet new s
      go (inl x) = met_kept old new g s (closed j s b x n (q ∙ ap Some slot))
      go (inr x) =
          let same : j ≡ i = omega arith in
          let here : to table s b ≡ Some t = q ∙ ap Some (slot ∙ ap (slice_index old_states) same ∙ e) in
          all s (sym (in_list s) ∙ preds.all s b t (edge_within table s b t here).0 n here)

kept_met : (numbers : List ℕ) (t : ℕ) → IsMet numbers t → met_target numbers (Some t) ≡ Some t
kept_met numbers t m = let e : nat_eq (slice_index numbers t) 0 ≡ false = grind (arith, nat_tests) in rw e refl

kept_unmet : (numbers : List ℕ) (t : ℕ) → (IsMet numbers t → ⊥) → met_target numbers (Some t) ≡ None
kept_unmet numbers t m = go (cases_lt 0 (slice_index numbers t))
  where
    go : (0 < slice_index numbers t) ⊎ (slice_index numbers t ≤ 0) → met_target numbers (Some t) ≡ None
    go (inl l) = absurd (m l)
    go (inr l) = let e : nat_eq (slice_index numbers t) 0 ≡ true = grind (arith, nat_tests) in rw e refl

-- a target that is left was there
pub met_some : (numbers : List ℕ) (target : Option ℕ) (t : ℕ) → met_target numbers target ≡ Some t → target ≡ Some t
met_some numbers None t e = e
met_some numbers (Some u) t e = go (cases_lt 0 (slice_index numbers u))
  where
    go : (0 < slice_index numbers u) ⊎ (slice_index numbers u ≤ 0) → Some u ≡ Some t
    go (inl m) = sym (kept_met numbers u m) ∙ e
    go (inr m) = let gone = kept_unmet numbers u (λ l. omega arith) in absurd (cc)

-- rows without the targets that are not in the order
pub pruned_by : (old new : Table) (numbers : List ℕ) → new.marks ≡ old.marks → AreUseful old numbers →
    ((s k : ℕ) → s < size old → to new s k ≡ met_target numbers (to old s k)) → IsPrunedTable old new
pruned_by old new numbers marks useful rows = record {
  marks = marks;
  some = λ s k t e. let w = edge_within old s k t e in kept s k t e w.0 w.1 (cases_lt 0 (slice_index numbers t));
  none = λ s k e. go s k e (cases_lt s (size old));
}
  where
    kept : (s k t : ℕ) → to old s k ≡ Some t → s < size old → t < size old → (0 < slice_index numbers t) ⊎ (slice_index numbers t ≤ 0) →
        ((to new s k ≡ Some t) × IsOfUse old t) ⊎ ((to new s k ≡ None) × (IsOfUse old t → ⊥))
    kept s k t e hs ht (inl m) = inl (rows s k hs ∙ ap (met_target numbers) e ∙ kept_met numbers t m, (useful t ht).0 m)
    kept s k t e hs ht (inr m) = inr (rows s k hs ∙ ap (met_target numbers) e ∙ kept_unmet numbers t (λ l. omega arith), λ u. let l = (useful t ht).1 u in omega arith)

    go : (s k : ℕ) → to old s k ≡ None → (s < size old) ⊎ (size old ≤ s) → to new s k ≡ None
    go s k e (inl l) = rows s k l ∙ ap (met_target numbers) e
    go s k e (inr l) = let n = ap (λ (v : Vec StateMarks Global). vec_len v) marks in no_edge new s k (omega arith)
