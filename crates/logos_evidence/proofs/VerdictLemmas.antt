-- A machine that follows two graphs determines whether their last matches or their errors differ.
use Rattle.std.proofs.Common.{◌≡◌, ℕ, ◌+◌, ◌<◌, ◌≤◌, ◌==◌, Bool, true, false, not, ◌&&◌, ◌||◌, List, [], ◌∷◌, Option, None, Some, is_some, if◌then◌else◌, refl, sym, ap, ◌∙◌, arith, eq-eqb}
use Rattle.std.specs.Option.{option_or}
use Rattle.std.proofs.lemmas.Bool.{ne_eqb}
use Rattle.std.proofs.lemmas.Option.{same_Some}
use Rattle.logos_graph.specs.Graph.{GraphState, next_by}
use Rattle.logos_evidence.specs.search.Machines.{after}
use Rattle.logos_evidence.specs.declared.search.point.Point.{Point}
use Rattle.logos_evidence.specs.inside.Lasts.{mark_by, mark_at_end, step_to, with_size, last_from}
use Rattle.logos_evidence.specs.inside.Machines.{same_mark, is_cut, one_leads, differs_after, pair_next, pair_goal}

-- ---- Sizes

with_low : (n : ℕ) (m : Option ℕ) (x : ℕ × ℕ) → with_size n m ≡ Some x → n ≤ x.1
with_low n None x e = cc
with_low n (Some k) x e =
    let same : ◌≡◌ {A = ℕ × ℕ} (k, n) x = same_Some _ _ e in
    let size : n ≡ x.1 = ap (λ (p : ℕ × ℕ). p.1) same in
    omega arith

or_low : (n : ℕ) (o : Option (ℕ × ℕ)) (m : Option ℕ) (x : ℕ × ℕ) → ((y : ℕ × ℕ) → o ≡ Some y → n + 1 ≤ y.1) → option_or o (with_size n m) ≡ Some x → n ≤ x.1
or_low n None m x h e = with_low n m x e
or_low n (Some y) m x h e =
    let same : y ≡ x = same_Some _ _ e in
    let low = h y refl in
    let size : y.1 ≡ x.1 = ap (λ (p : ℕ × ℕ). p.1) same in
    omega (arith, low, size)

size_low : (graph : List GraphState) (bytes : List ℕ) (s n : ℕ) (x : ℕ × ℕ) → last_from graph s n bytes ≡ Some x → n ≤ x.1
size_low graph [] s n x e = with_low n (mark_at_end graph s) x e
size_low graph (b ∷ bytes) s n x e = or_low n (last_from graph (step_to graph s b) (n + 1) bytes) (mark_by graph s b) x (size_low graph bytes (step_to graph s b) (n + 1)) e

-- ---- The verdict

module _ (one other : List GraphState) (names others : List ℕ) (utf8 : Bool) where
  abbrev differ : Bool → Bool → Option ℕ → Option ℕ → Bool → Bool
  differ = differs_after names others

  -- from the last matches, and whether the errors differ
  abbrev pub verdict : Option (ℕ × ℕ) → Option (ℕ × ℕ) → Bool → Bool → Bool → Bool
  verdict None None met last errors = if met then last else last || errors
  verdict None (Some y) met last errors = true
  verdict (Some x) None met last errors = true
  verdict (Some x) (Some y) met last errors = not (same_mark names (Some x.0) others (Some y.0) && x.1 == y.1)

  -- whether the errors of the rest part
  abbrev pub errors_part : ℕ → ℕ → Bool → List ℕ → Bool
  errors_part s t begun [] = false
  errors_part s t begun (b ∷ bytes) =
      (begun && (is_cut utf8 b && one_leads (next_by one s b) (next_by other t b))) || errors_part (step_to one s b) (step_to other t b) true bytes

  and_true : (b c : Bool) → c ≡ true → (b && c) ≡ b
  and_true true c e = e
  and_true false c e = refl

  and_false : (b c : Bool) → c ≡ false → (b && c) ≡ false
  and_false true c e = e
  and_false false c e = refl

  same_end : (m k n : ℕ) → not (same_mark names (Some m) others (Some k)) ≡ not (same_mark names (Some m) others (Some k) && n == n)
  same_end m k n = ap not (sym (and_true (same_mark names (Some m) others (Some k)) (n == n) (eq-eqb n n refl)))

  at_end : (m k : Option ℕ) (n : ℕ) (met last : Bool) → differ met last m k false ≡ verdict (with_size n m) (with_size n k) met last false
  at_end None None n met last = refl
  at_end None (Some k) n met last = refl
  at_end (Some m) None n met last = refl
  at_end (Some m) (Some k) n met last = same_end m k n

  other_end : (x : ℕ × ℕ) (k n : ℕ) → n < x.1 → true ≡ not (same_mark names (Some x.0) others (Some k) && x.1 == n)
  other_end x k n l = ap not (sym (and_false (same_mark names (Some x.0) others (Some k)) (x.1 == n) (ne_eqb x.1 n (λ e. omega (arith, e, l)))))

  end_other : (y : ℕ × ℕ) (m n : ℕ) → n < y.1 → true ≡ not (same_mark names (Some m) others (Some y.0) && n == y.1)
  end_other y m n l = ap not (sym (and_false (same_mark names (Some m) others (Some y.0)) (n == y.1) (ne_eqb n y.1 (λ e. omega (arith, e, l)))))

  quiet : (met last parts errors : Bool) → (if met || (false || false) then (if met then last else last || parts) else (if met then last else last || parts) || errors) ≡ (if met then last else last || (parts || errors))
  quiet true last parts errors = refl
  quiet false true parts errors = refl
  quiet false false parts errors = refl

  marked : (met d errors : Bool) → (if met || true then d else d || errors) ≡ d
  marked true d errors = refl
  marked false d errors = refl

  one_more : (o p : Option (ℕ × ℕ)) (m k : Option ℕ) (n : ℕ) (met last parts errors : Bool) → ((x : ℕ × ℕ) → o ≡ Some x → n < x.1) → ((y : ℕ × ℕ) → p ≡ Some y → n < y.1) →
      verdict o p (met || (is_some m || is_some k)) (differ met last m k parts) errors ≡ verdict (option_or o (with_size n m)) (option_or p (with_size n k)) met last (parts || errors)
  one_more (Some x) (Some y) m k n met last parts errors h g = refl
  one_more (Some x) None m None n met last parts errors h g = refl
  one_more (Some x) None m (Some k) n met last parts errors h g = other_end x k n (h x refl)
  one_more None (Some y) None k n met last parts errors h g = refl
  one_more None (Some y) (Some m) k n met last parts errors h g = end_other y m n (g y refl)
  one_more None None None None n met last parts errors h g = quiet met last parts errors
  one_more None None None (Some k) n met last parts errors h g = marked met true errors
  one_more None None (Some m) None n met last parts errors h g = marked met true errors
  one_more None None (Some m) (Some k) n met last parts errors h g =
      marked met (not (same_mark names (Some m) others (Some k))) errors ∙ same_end m k n

  -- a result for the rest completes to a result for the whole
  pub goes : (bytes : List ℕ) (p : Point) (n : ℕ) →
      (q : Point) × (after (pair_next one other names others utf8) p bytes ≡ Some q)
      × (pair_goal one other names others utf8 q ≡ verdict (last_from one p.here n bytes) (last_from other p.there n bytes) p.met p.last (errors_part p.here p.there p.begun bytes))
  goes [] p n = (p, refl, at_end (mark_at_end one p.here) (mark_at_end other p.there) n p.met p.last)
  goes (b ∷ bytes) p n =
      let parts = p.begun && (is_cut utf8 b && one_leads (next_by one p.here b) (next_by other p.there b)) in
      let rest = goes bytes (record {
        here = step_to one p.here b;
        there = step_to other p.there b;
        begun = true;
        met = p.met || (is_some (mark_by one p.here b) || is_some (mark_by other p.there b));
        last = differ p.met p.last (mark_by one p.here b) (mark_by other p.there b) parts;
      }) (n + 1) in (
        rest.0,
        rest.1,
        rest.2 ∙ one_more (last_from one (step_to one p.here b) (n + 1) bytes) (last_from other (step_to other p.there b) (n + 1) bytes) (mark_by one p.here b) (mark_by other p.there b) n p.met p.last parts
            (errors_part (step_to one p.here b) (step_to other p.there b) true bytes)
            (λ x e. let l = size_low one bytes (step_to one p.here b) (n + 1) x e in omega (arith, l))
            (λ y e. let l = size_low other bytes (step_to other p.there b) (n + 1) y e in omega (arith, l)),
      )
