-- Counting different numbers.
use Rattle.std.proofs.Common.{◌≡◌, ◌≢◌, ℕ, ◌<◌, ◌≤◌, inl, inr, true, false, slice_index_or, List, length, map, arith, sym, ◌∙◌, eqb}
use Rattle.std.specs.List.{range_with_len, list_any, All, AllPairs}
use Rattle.std.proofs.lemmas.Bool.{cases_lt, false≢true}
use Rattle.std.proofs.lemmas.Bool.Decides.{eqb_tells, Decides-eqb}
use Rattle.std.proofs.lemmas.List.Folds.{list_any_none}
use Rattle.std.proofs.lemmas.List.FromFn.{get_or-map-range_with_len, length-map-range_with_len}
use Rattle.std.proofs.lemmas.Map.Steps.{length-le_from_distinct_below}
use Rattle.std.proofs.lemmas.Map.Made.{IsDistinct-from_AllPairs}

-- m different numbers below m' are at most m'
pub fewer : (m m' : ℕ) (g : ℕ → ℕ) → ((i : ℕ) → i < m → g i < m') → ((i j : ℕ) → i < j → j < m → g i ≢ g j) → m ≤ m'
fewer m m' g below apart =
    let xs : List ℕ = map g (range_with_len 0 m) in
    let n : length xs ≡ m = length-map-range_with_len g 0 m in
    let at : (i d : ℕ) → i < m → slice_index_or xs i d ≡ g i = (λ i d l. get_or-map-range_with_len g 0 m i i d l (omega arith)) in
    let pairs : AllPairs (λ x y. x ≢ y) xs = (λ i j d l k. let k' : j < m = omega arith in let l' : i < m = omega arith in λ e. apart i j l k' (sym (at i d l') ∙ e ∙ at j d k')) in
    let all_below : (q : ℕ) → list_any (eqb q) xs ≡ true → q < m' = (λ q e. elim (cases_lt q m') [
      | inl l ↦ l
      | inr ge ↦
          let none : All (λ x. eqb q x ≡ false) xs = (λ k d l. let l' : k < m = omega arith in elim (eqb_tells q (slice_index_or xs k d)) [ inl t ↦ absurd (let b = below k l' in let e' = at k d l' in omega (arith, t.1)) | inr t ↦ t.0 ]) in
          absurd (false≢true (sym (list_any_none (eqb q) xs none) ∙ e))
    ]) in
    let most : length xs ≤ m' = length-le_from_distinct_below xs m' (IsDistinct-from_AllPairs Decides-eqb xs pairs) all_below in
    omega arith
