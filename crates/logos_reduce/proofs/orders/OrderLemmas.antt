-- States in the order in which they are met.
use Rattle.std.proofs.Common.{◌≡◌, ◌≢◌, ℕ, ◌+◌, ◌-◌, ◌<◌, ◌≤◌, ◌++◌, inl, inr, List, [], ◌∷◌, length, slice_index, slice_set, ap, arith}
use Rattle.std.proofs.lemmas.Grind.{common_steps}
use Rattle.std.proofs.lemmas.Bool.Decides.{eqb_tells}
use Rattle.logos_reduce.proofs.orders.CountLemmas.{fewer}
use Rattle.logos_reduce.specs.Order.{IsOrder, IsMet}
use Rattle.logos_reduce.specs.inside.Order.{Grows}

-- one state more
pub order_more : (numbers states : List ℕ) (s : ℕ) → IsOrder numbers states → s < length numbers → slice_index numbers s ≡ 0 →
    IsOrder (slice_set numbers s (length states + 1)) (states ++ s ∷ [])
order_more numbers states s h room free = record {
  placed = λ i l. elim (eqb_tells i (length states)) [
    | inl e ↦ (grind (arith, common_steps, e.1), grind (arith, common_steps, e.1))
    | inr d ↦
        let lt : i < length states = grind (arith, common_steps, d.1) in
        let p = h.placed i lt in
        let ne : slice_index states i ≢ s = (λ e. let q : slice_index numbers (slice_index states i) ≡ slice_index numbers s = ap (slice_index numbers) e in omega (arith, p.1, q, free)) in
        (grind (arith, common_steps), grind (arith, common_steps))
  ];
  named = λ t i e. elim (eqb_tells t s) [
    | inl q ↦ (grind (arith, common_steps, q.1), grind (arith, common_steps, q.1))
    | inr d ↦
        let e' : slice_index numbers t ≡ i + 1 = grind (arith, common_steps, d.1) in
        let p = h.named t i e' in
        (grind (arith, common_steps), grind (arith, common_steps))
  ];
}

pub grows_same : (numbers : List ℕ) → Grows numbers numbers
grows_same numbers = record { keeps = λ t i e. e }

pub grows_on : (a b c : List ℕ) → Grows a b → Grows b c → Grows a c
grows_on a b c g h = record { keeps = λ t i e. h.keeps t i (g.keeps t i e) }

-- a state that is met stays so
pub met_kept : (old new : List ℕ) → Grows old new → (s : ℕ) → IsMet old s → IsMet new s
met_kept old new g s m = let e = g.keeps s (slice_index old s - 1) (omega arith) in omega arith

-- the index of a state that is met
pub met_slot : (numbers states : List ℕ) → IsOrder numbers states → (s : ℕ) → IsMet numbers s → (i : ℕ) × (i < length states) × (slice_index states i ≡ s)
met_slot numbers states h s m = let p = h.named s (slice_index numbers s - 1) (omega arith) in (slice_index numbers s - 1, p.0, p.1)

pub none_met : (numbers states : List ℕ) → IsOrder numbers states → states ≡ [] → (s : ℕ) → IsMet numbers s → ⊥
none_met numbers states h e s m = let p = met_slot numbers states h s m in let l = p.1 in let n = ap length e in omega arith

-- a state keeps its index
pub slot_kept : (old old_states new new_states : List ℕ) → IsOrder old old_states → IsOrder new new_states → Grows old new →
    (i : ℕ) → i < length old_states → (i < length new_states) × (slice_index new_states i ≡ slice_index old_states i)
slot_kept old old_states new new_states h k g i l = k.named (slice_index old_states i) i (g.keeps (slice_index old_states i) i (h.placed i l).1)

-- there are not more states in the order than there are
pub order_few : (numbers states : List ℕ) → IsOrder numbers states → length states ≤ length numbers
order_few numbers states h =
    fewer (length states) (length numbers) (slice_index states) (λ i l. (h.placed i l).0)
    (λ i j l k e. let p = (h.placed i (omega arith)).1 in let q = (h.placed j k).1 in let r = ap (slice_index numbers) e in omega arith)
