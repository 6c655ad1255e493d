-- Ascending lists with the same members are equal.
use Rattle.std.proofs.Common.{◌≡◌, ℕ, zero, suc, ◌+◌, ◌<◌, ◌⊎◌, inl, inr, List, [], ◌∷◌, length, get_or, Contains, refl, sym, ◌∙◌, ap, subst, arith}
use Rattle.std.specs.List.Sorted.{IsStrictlyIncreasing}
use Rattle.logos_automaton.specs.Faults.{IsBefore, Ascends}

-- y is a member of the list
abbrev pub Has : {X : Type 0} → List X → X → Type 0
Has [] y = ⊥
Has (x ∷ xs) y = (x ≡ y) ⊎ Has xs y

pub has_from_at : {X : Type 0} (xs : List X) (y : X) (k : ℕ) → k < length xs → get_or xs k y ≡ y → Has xs y
has_from_at [] y k l e = omega (arith, l)
has_from_at (x ∷ xs) y zero l e = inl e
has_from_at (x ∷ xs) y (suc k) l e = inr (has_from_at xs y k (omega (arith, l)) e)

pub has_from_contains : {X : Type 0} (xs : List X) (y : X) → Contains xs y → Has xs y
has_from_contains xs y c = has_from_at xs y c.0 c.1 c.2

pub contains_from_has : {X : Type 0} (xs : List X) (y : X) → Has xs y → Contains xs y
contains_from_has [] y h = absurd h
contains_from_has (x ∷ xs) y (inl e) = (0, omega arith, e)
contains_from_has (x ∷ xs) y (inr h) = let c = contains_from_has xs y h in (suc c.0, omega (arith, c.1), c.2)

module _ {X : Type 0} (Before : X → X → Type 0) (never : (x : X) → Before x x → ⊥) (trans : (x y z : X) → Before x y → Before y z → Before x z) where
  -- each member comes before the next
  abbrev pub Rises : List X → Type 0
  Rises [] = Unit {0}
  Rises (x ∷ []) = Unit {0}
  Rises (x ∷ y ∷ rest) = Before x y × Rises (y ∷ rest)

  rest_rises : (x : X) (xs : List X) → Rises (x ∷ xs) → Rises xs
  rest_rises x [] r = tt
  rest_rises x (y ∷ xs) r = r.1

  first_is_before : (x : X) (xs : List X) (z : X) → Rises (x ∷ xs) → Has xs z → Before x z
  first_is_before x [] z r h = absurd h
  first_is_before x (y ∷ xs) z r (inl e) = subst (Before x) e r.0
  first_is_before x (y ∷ xs) z r (inr h) = trans x y z r.0 (first_is_before y xs z r.1 h)

  same_first : (x y : X) (xs ys : List X) → Rises (x ∷ xs) → Rises (y ∷ ys) → Has (y ∷ ys) x → Has (x ∷ xs) y → x ≡ y
  same_first x y xs ys r s (inl e) k = sym e
  same_first x y xs ys r s (inr h) (inl e) = e
  same_first x y xs ys r s (inr h) (inr k) = absurd (never x (trans x y x (first_is_before x xs y r k) (first_is_before y ys x s h)))

  in_rest : (x : X) (xs ys : List X) (z : X) → Rises (x ∷ xs) → Has xs z → Has (x ∷ ys) z → Has ys z
  in_rest x xs ys z r h (inl e) = absurd (never z (subst (λ w. Before w z) e (first_is_before x xs z r h)))
  in_rest x xs ys z r h (inr k) = k

  pub same_members : (xs ys : List X) → Rises xs → Rises ys → ((z : X) → Has xs z → Has ys z) → ((z : X) → Has ys z → Has xs z) → xs ≡ ys
  same_members [] [] r s there back = refl
  same_members [] (y ∷ ys) r s there back = absurd (back y (inl refl))
  same_members (x ∷ xs) [] r s there back = absurd (there x (inl refl))
  same_members (x ∷ xs) (y ∷ ys) r s there back =
      let e : x ≡ y = same_first x y xs ys r s (there x (inl refl)) (back y (inl refl)) in
      let t : xs ≡ ys = same_members xs ys (rest_rises x xs r) (rest_rises y ys s)
      (λ z h. in_rest x xs ys z r h (subst (λ w. Has (w ∷ ys) z) (sym e) (there z (inr h))))
      (λ z h. in_rest y ys xs z s h (subst (λ w. Has (w ∷ xs) z) e (back z (inr h)))) in
      ap (λ (w : X). w ∷ xs) e ∙ ap (λ (ws : List X). y ∷ ws) t

below_itself : (n : ℕ) → n < n → ⊥
below_itself n h = omega (arith, h)

below_trans : (k m n : ℕ) → k < m → m < n → k < n
below_trans k m n a b = omega (arith, a, b)

increasing_rest : (n : ℕ) (xs : List ℕ) → IsStrictlyIncreasing (n ∷ xs) → IsStrictlyIncreasing xs
increasing_rest n xs r = λ k h.
    let e : suc k + 1 ≡ suc (k + 1) = omega arith in
    subst (λ (j : ℕ). get_or xs k 0 < get_or (n ∷ xs) j 0) e (r (suc k) (omega (arith, h)))

increasing_rises : (xs : List ℕ) → IsStrictlyIncreasing xs → Rises ◌<◌ below_itself below_trans xs
increasing_rises [] r = tt
increasing_rises (x ∷ []) r = tt
increasing_rises (x ∷ y ∷ rest) r = (r 0 (omega arith), increasing_rises (y ∷ rest) (increasing_rest x (y ∷ rest) r))

-- ascending numbers are determined by their members
pub increasing_same : (xs ys : List ℕ) → IsStrictlyIncreasing xs → IsStrictlyIncreasing ys → ((n : ℕ) → Contains xs n → Contains ys n) → ((n : ℕ) → Contains ys n → Contains xs n) → xs ≡ ys
increasing_same xs ys r s there back = same_members ◌<◌ below_itself below_trans xs ys (increasing_rises xs r) (increasing_rises ys s)
    (λ n h. has_from_contains ys n (there n (contains_from_has xs n h)))
    (λ n h. has_from_contains xs n (back n (contains_from_has ys n h)))

before_itself : (xs : List ℕ) → IsBefore xs xs → ⊥
before_itself [] h = h
before_itself (x ∷ xs) (inl h) = omega (arith, h)
before_itself (x ∷ xs) (inr h) = before_itself xs h.1

before_trans : (xs ys zs : List ℕ) → IsBefore xs ys → IsBefore ys zs → IsBefore xs zs
before_trans [] [] zs a b = absurd a
before_trans [] (y ∷ ys) [] a b = absurd b
before_trans [] (y ∷ ys) (z ∷ zs) a b = tt
before_trans (x ∷ xs) [] zs a b = absurd a
before_trans (x ∷ xs) (y ∷ ys) [] a b = absurd b
before_trans (x ∷ xs) (y ∷ ys) (z ∷ zs) (inl a) (inl b) = inl (omega (arith, a, b))
before_trans (x ∷ xs) (y ∷ ys) (z ∷ zs) (inl a) (inr b) = inl (omega (arith, a, b.0))
before_trans (x ∷ xs) (y ∷ ys) (z ∷ zs) (inr a) (inl b) = inl (omega (arith, a.0, b))
before_trans (x ∷ xs) (y ∷ ys) (z ∷ zs) (inr a) (inr b) = inr (a.0 ∙ b.0, before_trans xs ys zs a.1 b.1)

ascends_rises : (xs : List (List ℕ)) → Ascends xs → Rises IsBefore before_itself before_trans xs
ascends_rises [] r = tt
ascends_rises (x ∷ []) r = tt
ascends_rises (x ∷ y ∷ rest) r = (r.0, ascends_rises (y ∷ rest) r.1)

-- ascending lists of numbers are determined by their members
pub ascending_same : (xs ys : List (List ℕ)) → Ascends xs → Ascends ys → ((set : List ℕ) → Contains xs set → Contains ys set) → ((set : List ℕ) → Contains ys set → Contains xs set) → xs ≡ ys
ascending_same xs ys r s there back = same_members IsBefore before_itself before_trans xs ys (ascends_rises xs r) (ascends_rises ys s)
    (λ n h. has_from_contains ys n (there n (contains_from_has xs n h)))
    (λ n h. has_from_contains xs n (back n (contains_from_has ys n h)))
