-- Properties of each element of a list.
use Rattle.std.proofs.Common.{◌≡◌, ℕ, zero, suc, ◌<◌, ◌↔◌, ◌⊎◌, ⊎_elim, List, [], ◌∷◌, map, length, All, slice_get, get_or, sym, arith}
use Rattle.std.proofs.lemmas.List.{get_or-map, length-map}
use Rattle.logos_code.specs.CodeView.{AreDifferent}

-- a property of each element of a mapped list
pub All-map-iff : {A B : Type 0} (P : B → Type 0) (f : A → B) (xs : List A) → All (λ x. P (f x)) xs ↔ All P (map f xs)
All-map-iff {A = A} P f xs = (there, back)
  where
    there : All (λ x. P (f x)) xs → All P (map f xs)
    there all i d h = go xs i all (rw length-map at h)
      where
        go : (xs : List A) (i : ℕ) → All (λ x. P (f x)) xs → i < length xs → P (get_or (map f xs) i d)
        go [] i all h = absurd (omega (arith, h))
        go (x ∷ xs) zero all h = all 0 x (omega arith)
        go (x ∷ xs) (suc i) all h = go xs i (λ j e k. all (suc j) e (omega (arith, k))) (omega (arith, h))

    back : All P (map f xs) → All (λ x. P (f x)) xs
    back all i d h = rw (get_or-map f xs i d (f d) h) at (all i (f d) (rw length-map h))

pub pairs_differ : (tables : List (List ℕ)) → ((i j : ℕ) → i < length tables → j < i → slice_get tables i ≡ slice_get tables j → ⊥) → AreDifferent tables
pairs_differ tables f i j h k e = ⊎_elim (λ l. absurd (f j i k l (sym e))) (λ o. ⊎_elim (λ l. absurd (f i j h l e)) (λ s. s) o) (order i j)
  where
    order : (a b : ℕ) → (a < b) ⊎ ((b < a) ⊎ (a ≡ b))
    order a b = grind arith
