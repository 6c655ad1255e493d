-- Runs of equal entries of a row.
use Rattle.std.proofs.Common.{◌≡◌, ◌≢◌, ℕ, ◌+◌, ◌<◌, ◌≤◌, ◌⊎◌, inl, inr, List, [], Option, length, slice_index, slice_index_or, slice_set, sym, ◌∙◌, ap, subst, arith}
use Rattle.std.proofs.lemmas.Bool.{cases_eq, cases_lt}
use Rattle.std.proofs.lemmas.List.{get_or-set_other, get_or-set_same}
use Rattle.logos_reduce.specs.Rows.{AreSame, HasOnly, target_by, target_of}

-- a run is longer by one that begins where it ends
pub only_more : (row : List ℕ) (a b c entry : ℕ) → HasOnly row a b entry → HasOnly row b c entry → HasOnly row a c entry
only_more row a b c entry p q = λ k l m. go k l m (cases_lt k b)
  where
    go : (k : ℕ) → a ≤ k → k < c → (k < b) ⊎ (b ≤ k) → slice_index row k ≡ entry
    go k l m (inl n) = p k l n
    go k l m (inr n) = q k n m

-- one entry is a run
pub only_one : (row : List ℕ) (b entry : ℕ) → slice_index row b ≡ entry → HasOnly row b (b + 1) entry
only_one row b entry e = λ k l m. let at : b ≡ k = omega arith in subst (λ (k : ℕ). slice_index row k ≡ entry) at e

-- rows agree up to where they agree from there on
pub same_more : (row other : List ℕ) (a b c : ℕ) → AreSame row other a b → AreSame row other b c → AreSame row other a c
same_more row other a b c p q = λ k l m. go k l m (cases_lt k b)
  where
    go : (k : ℕ) → a ≤ k → k < c → (k < b) ⊎ (b ≤ k) → slice_index row k ≡ slice_index other k
    go k l m (inl n) = p k l n
    go k l m (inr n) = q k n m

-- rows agree at one symbol
pub same_one : (row other : List ℕ) (b : ℕ) → slice_index row b ≡ slice_index other b → AreSame row other b (b + 1)
same_one row other b e = λ k l m. let at : b ≡ k = omega arith in subst (λ (k : ℕ). slice_index row k ≡ slice_index other k) at e

-- a property that holds before a run and at its first symbol holds up to its end
pub run_more : (P : Option ℕ → Type 0) (row : List ℕ) (k e : ℕ) → HasOnly row k e (slice_index row k) →
    ((j : ℕ) → j < k → P (target_by row j)) → P (target_by row k) → (j : ℕ) → j < e → P (target_by row j)
run_more P row k e same old here = λ j l. go j l (cases_lt j k)
  where
    go : (j : ℕ) → j < e → (j < k) ⊎ (k ≤ j) → P (target_by row j)
    go j l (inl m) = old j m
    go j l (inr m) = subst P (sym (ap target_of (same j m l))) here

-- a row that is made run by run
pub fill_more : (f : Option ℕ → Option ℕ) (row made made' : List ℕ) (k e entry : ℕ) → HasOnly row k e (slice_index row k) →
    ((j : ℕ) → j < k → slice_index made' j ≡ slice_index made j) → HasOnly made' k e entry →
    ((j : ℕ) → j < k → target_by made j ≡ f (target_by row j)) → target_of entry ≡ f (target_by row k) → (j : ℕ) → j < e → target_by made' j ≡ f (target_by row j)
fill_more f row made made' k e entry same before filled old here = λ j l. go j l (cases_lt j k)
  where
    go : (j : ℕ) → j < e → (j < k) ⊎ (k ≤ j) → target_by made' j ≡ f (target_by row j)
    go j l (inl m) = ap target_of (before j m) ∙ old j m
    go j l (inr m) = ap target_of (filled j m l) ∙ here ∙ ap (λ (x : ℕ). f (target_of x)) (sym (same j m l))

-- a property of each row of a list once one of them is another
pub set_row : (P : ℕ → List ℕ → Type 0) (rows : List (List ℕ)) (i : ℕ) (row : List ℕ) → i < length rows → P i row →
    ((j : ℕ) → j ≢ i → P j (slice_index_or rows j [])) → (j : ℕ) → P j (slice_index_or (slice_set rows i row) j [])
set_row P rows i row l here others j = go (cases_eq j i)
  where
    go : (j ≡ i) ⊎ (j ≡ i → ⊥) → P j (slice_index_or (slice_set rows i row) j [])
    go (inl e) = subst (λ (k : ℕ). P k (slice_index_or (slice_set rows i row) k [])) (sym e) (subst (P i) (sym (get_or-set_same rows i row [] l)) here)
    go (inr n) = subst (P j) (sym (get_or-set_other rows i j row [] n)) (others j n)
