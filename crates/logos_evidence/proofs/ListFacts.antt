-- Members and orders of lists.
use Rattle.std.proofs.Common.{◌≡◌, zero, suc, ◌⊎◌, List, [], ◌∷◌, ◌++◌, All, Contains, map, slice_index_or, refl, subst, inl, inr, arith}
use Rattle.std.specs.List.{AllPairs}
use Rattle.std.proofs.lemmas.List.Elements.{Contains-get_or, Contains-append_cases}
use Rattle.std.proofs.lemmas.List.Kept.{AllPairs-cons}

module _ {X : Type 0} where
  pub none_in : (x : X) → Contains [] x → ⊥
  none_in x c = let l = c.1 in omega (arith, l)

  pub first_in : (x : X) (xs : List X) → Contains (x ∷ xs) x
  first_in x xs = (0, omega arith, refl)

  pub rest_in : (x y : X) (xs : List X) → Contains xs y → Contains (x ∷ xs) y
  rest_in x y xs (k, l, e) = (suc k, omega arith, e)

  pub in_cases : (x y : X) (xs : List X) → Contains (x ∷ xs) y → (x ≡ y) ⊎ Contains xs y
  in_cases x y xs (zero, l, e) = inl e
  in_cases x y xs (suc k, l, e) = inr (k, omega arith, e)

  pub all_in : (P : X → Type 0) (xs : List X) → ((x : X) → Contains xs x → P x) → All P xs
  all_in P xs h k d l = h (slice_index_or xs k d) (Contains-get_or xs k d l)

  module _ (R : X → X → Type 0) where
    pairs_first : (x : X) (xs : List X) → AllPairs R (x ∷ xs) → All (R x) xs
    pairs_first x xs h k d l = h 0 (suc k) d (omega arith) (omega arith)

    pairs_rest : (x : X) (xs : List X) → AllPairs R (x ∷ xs) → AllPairs R xs
    pairs_rest x xs h i j d l m = h (suc i) (suc j) d (omega arith) (omega arith)

    pub pairs_none : AllPairs R []
    pairs_none i j d l m = absurd (omega arith)

    pub pairs_append : (xs ys : List X) → AllPairs R xs → AllPairs R ys → ((x y : X) → Contains xs x → Contains ys y → R x y) → AllPairs R (xs ++ ys)
    pairs_append [] ys p q h = q
    pairs_append (x ∷ xs) ys p q h =
        let rest = pairs_append xs ys (pairs_rest x xs p) q (λ a b c d. h a b (rest_in x a xs c) d) in
        AllPairs-cons R x (xs ++ ys) (all_in (R x) (xs ++ ys) (λ y c. go y (Contains-append_cases xs ys y c))) rest
      where
        go : (y : X) → Contains xs y ⊎ Contains ys y → R x y
        go y (inl (k, l, e)) = subst (R x) e (pairs_first x xs p k y l)
        go y (inr c) = h x y (first_in x xs) c

module _ {X Y : Type 0} (f : X → Y) where
  pub map_in : (xs : List X) (x : X) → Contains xs x → Contains (map f xs) (f x)
  map_in [] x c = absurd (none_in x c)
  map_in (y ∷ xs) x c = go (map_in xs x) (in_cases y x xs c)
    where
      go : (Contains xs x → Contains (map f xs) (f x)) → (y ≡ x) ⊎ Contains xs x → Contains (map f (y ∷ xs)) (f x)
      go ih (inl e) = subst (λ (z : X). Contains (map f (y ∷ xs)) (f z)) e (first_in (f y) (map f xs))
      go ih (inr d) = rest_in (f y) (f x) (map f xs) (ih d)

  pub in_map : (xs : List X) (y : Y) → Contains (map f xs) y → (x : X) × Contains xs x × (f x ≡ y)
  in_map [] y c = absurd (none_in y c)
  in_map (x ∷ xs) y c = go (in_map xs y) (in_cases (f x) y (map f xs) c)
    where
      go : (Contains (map f xs) y → (z : X) × Contains xs z × (f z ≡ y)) → (f x ≡ y) ⊎ Contains (map f xs) y → (z : X) × Contains (x ∷ xs) z × (f z ≡ y)
      go ih (inl e) = (x, first_in x xs, e)
      go ih (inr d) = let r = ih d in (r.0, rest_in x r.0 xs r.1, r.2)

  pub pairs_map : (R : Y → Y → Type 0) (S : X → X → Type 0) → ((x y : X) → S x y → R (f x) (f y)) → (xs : List X) → AllPairs S xs → AllPairs R (map f xs)
  pairs_map R S h [] p = pairs_none R
  pairs_map R S h (x ∷ xs) p =
      AllPairs-cons R (f x) (map f xs)
      (all_in (R (f x)) (map f xs) (λ y c. let z = in_map xs y c in subst (R (f x)) z.2 (h x z.0 (at z.0 z.1))))
      (pairs_map R S h xs (λ i j d l m. p (suc i) (suc j) d (omega arith) (omega arith)))
    where
      at : (z : X) → Contains xs z → S x z
      at z (k, l, e) = subst (S x) e (p 0 (suc k) z (omega arith) (omega arith))
