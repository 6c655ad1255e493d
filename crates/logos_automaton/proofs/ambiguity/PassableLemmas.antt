-- The leaves whose trees can be passed.
use Rattle.std.proofs.Common.{◌≡◌, ℕ, zero, suc, ◌+◌, ◌<◌, ◌≤◌, inl, inr, Bool, true, false, cond, List, [], ◌∷◌, get_or, IsSomeAnd, IsTrue, slice_get, refl, subst, arith}
use Rattle.std.specs.List.Sorted.{IsStrictlyIncreasing}
use Rattle.logos_hir.specs.Passable.{passable}
use Rattle.logos_automaton.specs.Munch.{Rule}
use Rattle.logos_automaton.specs.Faults.{ArePassable}
use Rattle.logos_automaton.proofs.ambiguity.SameMembers.{Has, has_from_contains, contains_from_has}

-- the numbers of the rules whose trees can be passed, where the first has this number
abbrev pub passed_from : ℕ → List Rule → List ℕ
passed_from n [] = []
passed_from n (rule ∷ rules) = cond (passable rule.tree) (n ∷ passed_from (n + 1) rules) (passed_from (n + 1) rules)

abbrev IsPassable : List Rule → ℕ → Type 0
IsPassable rules leaf = IsSomeAnd (slice_get rules leaf) (λ rule. IsTrue (passable rule.tree))

-- the list that begins here, if the first can be passed
abbrev begun : Bool → ℕ → List ℕ → List ℕ
begun b n later = cond b (n ∷ later) later

passed_low : (rules : List Rule) (n leaf : ℕ) → Has (passed_from n rules) leaf → n ≤ leaf
passed_low [] n leaf h = absurd h
passed_low (rule ∷ rules) n leaf h = go (passable rule.tree) h (passed_low rules (n + 1) leaf)
  where
    go : (b : Bool) → Has (begun b n (passed_from (n + 1) rules)) leaf → (Has (passed_from (n + 1) rules) leaf → n + 1 ≤ leaf) → n ≤ leaf
    go true (inl e) ih = omega arith
    go true (inr h) ih = let l = ih h in omega arith
    go false h ih = let l = ih h in omega arith

passed_only : (rules : List Rule) (n k : ℕ) → Has (passed_from n rules) (n + k) → IsPassable rules k
passed_only [] n k h = absurd h
passed_only (rule ∷ rules) n k h = go (passable rule.tree) refl k h (passed_only rules (n + 1))
  where
    later : (k : ℕ) → Has (passed_from (n + 1) rules) (n + k) → ((k : ℕ) → Has (passed_from (n + 1) rules) (n + 1 + k) → IsPassable rules k) → IsPassable (rule ∷ rules) k
    later zero h ih = let l = passed_low rules (n + 1) (n + 0) h in absurd (omega (arith, l))
    later (suc k) h ih = let e : n + suc k ≡ n + 1 + k = omega arith in ih k (subst (Has (passed_from (n + 1) rules)) e h)

    go : (b : Bool) → passable rule.tree ≡ b → (k : ℕ) → Has (begun b n (passed_from (n + 1) rules)) (n + k) →
        ((k : ℕ) → Has (passed_from (n + 1) rules) (n + 1 + k) → IsPassable rules k) → IsPassable (rule ∷ rules) k
    go true p zero h ih = p
    go true p (suc k) (inl e) ih = absurd (omega (arith, e))
    go true p (suc k) (inr h) ih = later (suc k) h ih
    go false p k h ih = later k h ih

passed_all : (rules : List Rule) (n k : ℕ) → IsPassable rules k → Has (passed_from n rules) (n + k)
passed_all [] n k p = absurd p
passed_all (rule ∷ rules) n zero p = let t : passable rule.tree ≡ true = p in rw t (inl (omega arith))
passed_all (rule ∷ rules) n (suc k) p = let e : n + 1 + k ≡ n + suc k = omega arith in go (passable rule.tree) (subst (Has (passed_from (n + 1) rules)) e (passed_all rules (n + 1) k p))
  where
    go : (b : Bool) → Has (passed_from (n + 1) rules) (n + suc k) → Has (begun b n (passed_from (n + 1) rules)) (n + suc k)
    go true h = inr h
    go false h = h

pub increasing_cons : (x : ℕ) (xs : List ℕ) → ((y : ℕ) → Has xs y → x < y) → IsStrictlyIncreasing xs → IsStrictlyIncreasing (x ∷ xs)
increasing_cons x [] low rising = λ k l. absurd (omega (arith, l))
increasing_cons x (y ∷ xs) low rising = at
  where
    at : IsStrictlyIncreasing (x ∷ y ∷ xs)
    at zero l = low y (inl refl)
    at (suc k) l =
        let e : suc (k + 1) ≡ suc k + 1 = omega arith in
        subst (λ (j : ℕ). get_or (y ∷ xs) k 0 < get_or (x ∷ y ∷ xs) j 0) e (rising k (omega (arith, l)))

passed_rise : (rules : List Rule) (n : ℕ) → IsStrictlyIncreasing (passed_from n rules)
passed_rise [] n = λ k l. absurd (omega (arith, l))
passed_rise (rule ∷ rules) n = go (passable rule.tree) (passed_rise rules (n + 1))
  where
    go : (b : Bool) → IsStrictlyIncreasing (passed_from (n + 1) rules) → IsStrictlyIncreasing (begun b n (passed_from (n + 1) rules))
    go true ih = increasing_cons n (passed_from (n + 1) rules) (λ y h. let l = passed_low rules (n + 1) y h in omega arith) ih
    go false ih = ih

pub are_passable : (rules : List Rule) → ArePassable rules (passed_from 0 rules)
are_passable rules = record {
  ascending = passed_rise rules 0;
  exactly = λ leaf. (
    λ c. passed_only rules 0 leaf (let e : leaf ≡ 0 + leaf = omega arith in subst (Has (passed_from 0 rules)) e (has_from_contains _ _ c)),
    λ p. contains_from_has _ _ (let e : 0 + leaf ≡ leaf = omega arith in subst (Has (passed_from 0 rules)) e (passed_all rules 0 leaf p)),
  );
}
