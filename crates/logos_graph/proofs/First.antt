-- Where no sets are ambiguous, the leaf of highest priority that is listed is the first by priority
-- of those that match.
use Rattle.std.proofs.Common.{◌≡◌, ◌≢◌, ◌↔◌, ℕ, zero, suc, ◌<◌, ◌≤◌, ◌⊎◌, inl, inr, Bool, true, false, cond, List, [], ◌∷◌, length, Contains, filter, nat_lt, eqb, MatchOption, Option, Some, None, refl, sym, ◌∙◌, ap, subst, arith, eqb-true, eq-eqb}
use Rattle.std.proofs.lemmas.Bool.{cases_lt}
use Rattle.std.proofs.lemmas.Bool.Decides.{nat_tests}
use Rattle.std.proofs.lemmas.List.Kept.{IsStrictlyIncreasing-filter}
use Rattle.std.specs.List.Sorted.{IsStrictlyIncreasing}
use Rattle.logos_hir.specs.Text.{IsBytes}
use Rattle.logos_automaton.specs.Munch.{Rule, RuleMatches, IsFirst, priority_of}
use Rattle.logos_automaton.specs.Ambiguity.{IsHighest, IsAmbiguous}
use Rattle.logos_graph.specs.inside.First.{first_of, higher}
use Rattle.logos_graph.proofs.Raw.{FirstOrNone}

contains_here : (x : ℕ) (xs : List ℕ) → Contains (x ∷ xs) x
contains_here x xs = (0, omega arith, refl)

contains_there : (y x : ℕ) (xs : List ℕ) → Contains xs x → Contains (y ∷ xs) x
contains_there y x xs c = (suc c.0, omega (arith, c.1), c.2)

contains_cases : (y x : ℕ) (xs : List ℕ) → Contains (y ∷ xs) x → (y ≡ x) ⊎ Contains xs x
contains_cases y x xs (zero, l, e) = inl e
contains_cases y x xs (suc k, l, e) = inr (k, omega arith, e)

pub none_contained : (x : ℕ) → Contains [] x → ⊥
none_contained x c = let l = c.1 in omega arith

test_lt : (a b : ℕ) → ((nat_lt a b ≡ true) × (a < b)) ⊎ ((nat_lt a b ≡ false) × (b ≤ a))
test_lt a b = go (cases_lt a b)
  where
    go : (a < b) ⊎ (b ≤ a) → ((nat_lt a b ≡ true) × (a < b)) ⊎ ((nat_lt a b ≡ false) × (b ≤ a))
    go (inl l) = inl (grind (arith, nat_tests), l)
    go (inr l) = inr (grind (arith, nat_tests), l)

-- the elements that pass a filter
filter_cases : (p : ℕ → Bool) (xs : List ℕ) (x : ℕ) → Contains (filter p xs) x → Contains xs x × (p x ≡ true)
filter_cases p [] x c = absurd (none_contained x c)
filter_cases p (y ∷ xs) x c = go (p y) refl c (filter_cases p xs x)
  where
    go : (t : Bool) → p y ≡ t → Contains (cond t (y ∷ filter p xs) (filter p xs)) x → (Contains (filter p xs) x → Contains xs x × (p x ≡ true)) → Contains (y ∷ xs) x × (p x ≡ true)
    go false e c ih = let r = ih c in (contains_there y x xs r.0, r.1)
    go true e c ih = step (contains_cases y x (filter p xs) c)
      where
        step : (y ≡ x) ⊎ Contains (filter p xs) x → Contains (y ∷ xs) x × (p x ≡ true)
        step (inl q) = (subst (Contains (y ∷ xs)) q (contains_here y xs), ap p (sym q) ∙ e)
        step (inr c) = let r = ih c in (contains_there y x xs r.0, r.1)

filter_has : (p : ℕ → Bool) (xs : List ℕ) (x : ℕ) → Contains xs x → p x ≡ true → Contains (filter p xs) x
filter_has p [] x c t = absurd (none_contained x c)
filter_has p (y ∷ xs) x c t = go (p y) refl (contains_cases y x xs c) (λ c. filter_has p xs x c t)
  where
    go : (t : Bool) → p y ≡ t → (y ≡ x) ⊎ Contains xs x → (Contains xs x → Contains (filter p xs) x) → Contains (cond t (y ∷ filter p xs) (filter p xs)) x
    go true e (inl q) ih = subst (Contains (y ∷ filter p xs)) q (contains_here y (filter p xs))
    go true e (inr c) ih = contains_there y x (filter p xs) (ih c)
    go false e (inl q) ih = let z : p x ≡ false = ap p (sym q) ∙ e in absurd (cc)
    go false e (inr c) ih = ih c

two : (xs : List ℕ) (x y : ℕ) → (x ≡ y → ⊥) → Contains xs x → Contains xs y → 2 ≤ length xs
two [] x y d a b = absurd (none_contained x a)
two (z ∷ []) x y d a b = go (contains_cases z x [] a) (contains_cases z y [] b)
  where
    go : (z ≡ x) ⊎ Contains [] x → (z ≡ y) ⊎ Contains [] y → 2 ≤ length (z ∷ [])
    go (inl p) (inl q) = absurd (d (sym p ∙ q))
    go (inl p) (inr c) = absurd (none_contained y c)
    go (inr c) q = absurd (none_contained x c)
two (z ∷ w ∷ xs) x y d a b = omega arith

module _ (rules : List Rule) where
  record IsTop (leaves : List ℕ) (leaf : ℕ) : Type 0 where
    pub listed : Contains leaves leaf
    pub top : (other : ℕ) → Contains leaves other → priority_of rules other ≤ priority_of rules leaf

  top_of : (leaves : List ℕ) → MatchOption (first_of rules leaves) (leaves ≡ []) (IsTop leaves)
  top_of [] = refl
  top_of (leaf ∷ leaves) = go (first_of rules leaves) (top_of leaves)
    where
      go : (o : Option ℕ) → MatchOption o (leaves ≡ []) (IsTop leaves) → IsTop (leaf ∷ leaves) (higher rules leaf o)
      go None e = record { listed = contains_here leaf leaves; top = λ other c. only other (contains_cases leaf other leaves c) }
        where
          only : (other : ℕ) → (leaf ≡ other) ⊎ Contains leaves other → priority_of rules other ≤ priority_of rules leaf
          only other (inl q) = subst (λ (x : ℕ). priority_of rules x ≤ priority_of rules leaf) q (omega arith)
          only other (inr c) = absurd (none_contained other (rw e at c))
      go (Some best) t = pick (test_lt (priority_of rules leaf) (priority_of rules best))
        where
          P : ℕ → ℕ
          P = priority_of rules

          pick : ((nat_lt (priority_of rules leaf) (priority_of rules best) ≡ true) × (priority_of rules leaf < priority_of rules best))
              ⊎ ((nat_lt (priority_of rules leaf) (priority_of rules best) ≡ false) × (priority_of rules best ≤ priority_of rules leaf)) →
              IsTop (leaf ∷ leaves) (higher rules leaf (Some best))
          pick (inl l) = rw l.0 (record { listed = contains_there leaf best leaves t.listed; top = λ other c. step other (contains_cases leaf other leaves c) })
            where
              step : (other : ℕ) → (leaf ≡ other) ⊎ Contains leaves other → priority_of rules other ≤ priority_of rules best
              step other (inl q) = subst (λ (x : ℕ). priority_of rules x ≤ priority_of rules best) q (let m = l.1 in omega arith)
              step other (inr c) = t.top other c
          pick (inr l) = rw l.0 (record { listed = contains_here leaf leaves; top = λ other c. step other (contains_cases leaf other leaves c) })
            where
              step : (other : ℕ) → (leaf ≡ other) ⊎ Contains leaves other → priority_of rules other ≤ priority_of rules leaf
              step other (inl q) = subst (λ (x : ℕ). priority_of rules x ≤ priority_of rules leaf) q (omega arith)
              step other (inr c) = let a = t.top other c in let b = l.1 in omega arith

  -- where no set is ambiguous, the top one of those that match is the first
  top_is_first : ((set : List ℕ) → IsAmbiguous rules set → ⊥) → (bytes : List ℕ) → IsBytes bytes → (from to : ℕ) (leaves : List ℕ) → IsStrictlyIncreasing leaves →
      ((leaf : ℕ) → Contains leaves leaf ↔ RuleMatches rules leaf bytes from to) → (leaf : ℕ) → IsTop leaves leaf → IsFirst rules bytes from to leaf
  top_is_first clear bytes ok from to leaves rising lists leaf t = record {
    matches = (lists leaf).0 t.listed;
    first = λ other d m. go other d m (cases_lt (priority_of rules other) (priority_of rules leaf));
  }
    where
      level : ℕ → Bool
      level l = eqb (priority_of rules l) (priority_of rules leaf)

      highest : (l : ℕ) → Contains (filter level leaves) l ↔ IsHighest rules bytes from to l
      highest l = (there, back)
        where
          there : Contains (filter level leaves) l → IsHighest rules bytes from to l
          there c =
              let k = filter_cases level leaves l c in
              let e = eqb-true (priority_of rules l) (priority_of rules leaf) k.1 in
              record { matches = (lists l).0 k.0; highest = λ o m. let a = t.top o ((lists o).1 m) in omega arith }

          back : IsHighest rules bytes from to l → Contains (filter level leaves) l
          back h =
              let a = t.top l ((lists l).1 h.matches) in
              let b = h.highest leaf ((lists leaf).0 t.listed) in
              filter_has level leaves l ((lists l).1 h.matches) (eq-eqb (priority_of rules l) (priority_of rules leaf) (omega arith))

      go : (other : ℕ) → other ≢ leaf → RuleMatches rules other bytes from to → (priority_of rules other < priority_of rules leaf) ⊎ (priority_of rules leaf ≤ priority_of rules other) →
          priority_of rules other < priority_of rules leaf
      go other d m (inl l) = l
      go other d m (inr l) =
          let listed : Contains leaves other = (lists other).1 m in
          let a = t.top other listed in
          let one = filter_has level leaves other listed (eq-eqb (priority_of rules other) (priority_of rules leaf) (omega arith)) in
          let same = filter_has level leaves leaf t.listed (eq-eqb (priority_of rules leaf) (priority_of rules leaf) refl) in
          absurd (clear (filter level leaves) (record {
            several = two (filter level leaves) other leaf d one same;
            ascending = IsStrictlyIncreasing-filter level leaves rising;
            bytes = bytes;
            are_bytes = ok;
            from = from;
            to = to;
            exactly = highest;
          }))

  pub first_marks : ((set : List ℕ) → IsAmbiguous rules set → ⊥) → (bytes : List ℕ) → IsBytes bytes → (from to : ℕ) (leaves : List ℕ) → IsStrictlyIncreasing leaves →
      ((leaf : ℕ) → Contains leaves leaf ↔ RuleMatches rules leaf bytes from to) → FirstOrNone rules (first_of rules leaves) bytes from to
  first_marks clear bytes ok from to [] rising lists = λ leaf m. none_contained leaf ((lists leaf).1 m)
  first_marks clear bytes ok from to (leaf ∷ leaves) rising lists = top_is_first clear bytes ok from to (leaf ∷ leaves) rising lists (higher rules leaf (first_of rules leaves)) (top_of (leaf ∷ leaves))
