-- Sets of numbers in ascending order.
use Rattle.std.proofs.Common.{◌≡◌, ◌↔◌, ℕ, ◌<◌, ◌⊎◌, inl, inr, Bool, true, false, cond, List, [], ◌∷◌, map, nat_eq, nat_lt, refl, sym, ◌∙◌, ap, arith}
use Rattle.std.proofs.lemmas.Bool.Decides.{nat_tests}
use Rattle.std.specs.declared.cmp.Ordering.{Ordering}
use Rattle.std.specs.declared.cmp.Ordering.TheVariants.{Less, Equal, Greater}
use Rattle.std.specs.Ordering.{nat_cmp, ordering_then, match_ordering}
use Rattle.std.specs.Cmp.Lexicographic.{slice_cmp}
use Rattle.std.specs.BTreeSet.{insert_key}
use Rattle.std.specs.List.Sorted.{IsStrictlySortedBy}
use Rattle.logos_automaton.specs.Faults.{IsBefore, Ascends}
use Rattle.logos_automaton.proofs.ambiguity.SameMembers.{Has}

equal_numbers : (x y : ℕ) → nat_cmp x y ≡ Equal → x ≡ y
equal_numbers x y e = go (nat_lt x y) (nat_eq x y) refl refl
  where
    go : (a b : Bool) → nat_lt x y ≡ a → nat_eq x y ≡ b → x ≡ y
    go true b p q = let z : cond true Less (cond (nat_eq x y) Equal Greater) ≡ Equal = rw p at e in absurd (cc)
    go false true p q = grind (arith, nat_tests)
    go false false p q = let z : cond false Less (cond false Equal Greater) ≡ Equal = rw (p, q) at e in absurd (cc)

less_number : (x y : ℕ) → nat_cmp x y ≡ Less → x < y
less_number x y e = go (nat_lt x y) (nat_eq x y) refl refl
  where
    go : (a b : Bool) → nat_lt x y ≡ a → nat_eq x y ≡ b → x < y
    go true b p q = grind (arith, nat_tests)
    go false true p q = let z : cond false Less (cond true Equal Greater) ≡ Less = rw (p, q) at e in absurd (cc)
    go false false p q = let z : cond false Less (cond false Equal Greater) ≡ Less = rw (p, q) at e in absurd (cc)

pub equal_lists : (xs ys : List ℕ) → slice_cmp nat_cmp xs ys ≡ Equal → xs ≡ ys
equal_lists [] [] e = refl
equal_lists [] (y ∷ ys) e = absurd (cc)
equal_lists (x ∷ xs) [] e = absurd (cc)
equal_lists (x ∷ xs) (y ∷ ys) e = go (nat_cmp x y) refl e (equal_lists xs ys)
  where
    go : (o : Ordering) → nat_cmp x y ≡ o → ordering_then o (slice_cmp nat_cmp xs ys) ≡ Equal → (slice_cmp nat_cmp xs ys ≡ Equal → xs ≡ ys) → x ∷ xs ≡ y ∷ ys
    go Less p e ih = absurd (cc)
    go Equal p e ih = ap (λ (z : ℕ). z ∷ xs) (equal_numbers x y p) ∙ ap (λ (zs : List ℕ). y ∷ zs) (ih e)
    go Greater p e ih = absurd (cc)

pub list_before : (xs ys : List ℕ) → slice_cmp nat_cmp xs ys ≡ Less → IsBefore xs ys
list_before [] [] e = absurd (cc)
list_before [] (y ∷ ys) e = tt
list_before (x ∷ xs) [] e = absurd (cc)
list_before (x ∷ xs) (y ∷ ys) e = go (nat_cmp x y) refl e (list_before xs ys)
  where
    go : (o : Ordering) → nat_cmp x y ≡ o → ordering_then o (slice_cmp nat_cmp xs ys) ≡ Less → (slice_cmp nat_cmp xs ys ≡ Less → IsBefore xs ys) → IsBefore (x ∷ xs) (y ∷ ys)
    go Less p e ih = inl (less_number x y p)
    go Equal p e ih = inr (equal_numbers x y p, ih e)
    go Greater p e ih = absurd (cc)

module _ {K : Type 0} (numbers_of : K → List ℕ) where
  -- keys are compared by their numbers
  abbrev pub by_numbers : K → K → Ordering
  by_numbers x y = slice_cmp nat_cmp (numbers_of x) (numbers_of y)

  -- a set that is inserted is there, and the others are there as before
  pub inserted : (ks : List K) (k : K) (other : List ℕ) → Has (map numbers_of (insert_key by_numbers ks k)) other ↔ (Has (map numbers_of ks) other ⊎ (other ≡ numbers_of k))
  inserted [] k other = (there, back)
    where
      there : (numbers_of k ≡ other) ⊎ ⊥ → ⊥ ⊎ (other ≡ numbers_of k)
      there (inl e) = inr (sym e)
      there (inr h) = absurd h

      back : ⊥ ⊎ (other ≡ numbers_of k) → (numbers_of k ≡ other) ⊎ ⊥
      back (inl h) = absurd h
      back (inr e) = inl (sym e)
  inserted (x ∷ ks) k other = go (by_numbers k x) refl (inserted ks k other)
    where
      go : (o : Ordering) → by_numbers k x ≡ o → Has (map numbers_of (insert_key by_numbers ks k)) other ↔ (Has (map numbers_of ks) other ⊎ (other ≡ numbers_of k)) →
          Has (map numbers_of (match_ordering o (k ∷ x ∷ ks) (x ∷ ks) (x ∷ insert_key by_numbers ks k))) other ↔ (Has (map numbers_of (x ∷ ks)) other ⊎ (other ≡ numbers_of k))
      go Less p ih = (there, back)
        where
          there : (numbers_of k ≡ other) ⊎ Has (map numbers_of (x ∷ ks)) other → Has (map numbers_of (x ∷ ks)) other ⊎ (other ≡ numbers_of k)
          there (inl e) = inr (sym e)
          there (inr h) = inl h

          back : Has (map numbers_of (x ∷ ks)) other ⊎ (other ≡ numbers_of k) → (numbers_of k ≡ other) ⊎ Has (map numbers_of (x ∷ ks)) other
          back (inl h) = inr h
          back (inr e) = inl (sym e)
      go Equal p ih = (λ h. inl h, back)
        where
          back : Has (map numbers_of (x ∷ ks)) other ⊎ (other ≡ numbers_of k) → Has (map numbers_of (x ∷ ks)) other
          back (inl h) = h
          back (inr e) = inl (sym (e ∙ equal_lists (numbers_of k) (numbers_of x) p))
      go Greater p ih = (there, back)
        where
          there : (numbers_of x ≡ other) ⊎ Has (map numbers_of (insert_key by_numbers ks k)) other → Has (map numbers_of (x ∷ ks)) other ⊎ (other ≡ numbers_of k)
          there (inl e) = inl (inl e)
          there (inr h) = later (ih.0 h)
            where
              later : Has (map numbers_of ks) other ⊎ (other ≡ numbers_of k) → Has (map numbers_of (x ∷ ks)) other ⊎ (other ≡ numbers_of k)
              later (inl h) = inl (inr h)
              later (inr e) = inr e

          back : Has (map numbers_of (x ∷ ks)) other ⊎ (other ≡ numbers_of k) → (numbers_of x ≡ other) ⊎ Has (map numbers_of (insert_key by_numbers ks k)) other
          back (inl (inl e)) = inl e
          back (inl (inr h)) = inr (ih.1 (inl h))
          back (inr e) = inr (ih.1 (inr e))

  -- keys in order ascend
  pub ascends_by : (ks : List K) → IsStrictlySortedBy by_numbers ks → Ascends (map numbers_of ks)
  unfolding IsStrictlySortedBy
  ascends_by [] h = tt
  ascends_by (x ∷ []) h = tt
  ascends_by (x ∷ y ∷ ks) h = (list_before (numbers_of x) (numbers_of y) h.0.0, ascends_by (y ∷ ks) h.1)
