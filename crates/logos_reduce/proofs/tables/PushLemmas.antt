-- Lists that a loop fills.
use Rattle.std.proofs.Common.{◌≡◌, ℕ, ◌+◌, ◌<◌, ◌≤◌, ◌⊎◌, inl, inr, List, [], ◌∷◌, ◌++◌, length, slice_index_or, sym, ◌∙◌, ap, subst, arith, length-append}
use Rattle.std.proofs.lemmas.List.{get_or_append_left, get_or_push, get_or_past, get_or-replicate, length-replicate}
use Rattle.std.proofs.Math.ListN.{replicate}
use Rattle.std.proofs.lemmas.Bool.{cases_lt}

-- the step of a loop that pushes
pub pushed : {A : Type 0} (P : ℕ → A → Type 0) (xs ys : List A) (x d : A) (n : ℕ) → ys ≡ xs ++ x ∷ [] → length xs ≡ n →
    ((i : ℕ) → i < n → P i (slice_index_or xs i d)) → P n x → (i : ℕ) → i < n + 1 → P i (slice_index_or ys i d)
pushed P xs ys x d n e len all one i l = go (cases_lt i n)
  where
    go : (i < n) ⊎ (n ≤ i) → P i (slice_index_or ys i d)
    go (inl m) = subst (P i) (sym (get_or_append_left xs (x ∷ []) d i (omega arith)) ∙ ap (λ zs. slice_index_or zs i d) (sym e)) (all i m)
    go (inr m) =
        let here : i ≡ n = omega arith in
        let at : slice_index_or ys i d ≡ x = ap (λ zs. slice_index_or zs i d) e ∙ ap (λ j. slice_index_or (xs ++ x ∷ []) j d) here ∙ get_or_push xs x d n len in
        subst (P i) (sym at) (subst (λ j. P j x) (sym here) one)

-- a list of one number has it everywhere
pub filled : {A : Type 0} (n i : ℕ) (x : A) → slice_index_or (replicate n x) i x ≡ x
filled n i x = go (cases_lt i n)
  where
    go : (i < n) ⊎ (n ≤ i) → slice_index_or (replicate n x) i x ≡ x
    go (inl l) = get_or-replicate n i x x l
    go (inr l) = get_or_past (replicate n x) i x (let e = length-replicate n x in omega arith)

pub length_pushed : {A : Type 0} (xs ys : List A) (x : A) (n : ℕ) → ys ≡ xs ++ x ∷ [] → length xs ≡ n → length ys ≡ n + 1
length_pushed xs ys x n e l = ap length e ∙ length-append xs (x ∷ []) ∙ ap (λ m. m + 1) l
