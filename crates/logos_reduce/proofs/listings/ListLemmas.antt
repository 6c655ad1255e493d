-- Lists of states.
use Rattle.std.proofs.Common.{◌≡◌, ◌≢◌, ℕ, ◌<◌, ◌++◌, ◌⊎◌, inl, inr, zero, suc, Bool, true, false, ◌||◌, Vec, Global, slice_index, slice_get, slice_set, List, [], ◌∷◌, length, arith, refl, sym, ◌∙◌, ap, eqb, eq-eqb, get_or, Some}
use Rattle.std.specs.List.{list_any}
use Rattle.std.proofs.lemmas.Bool.Decides.{eqb_tells}
use Rattle.std.proofs.lemmas.List.Folds.{list_any-append, list_any_at}
use Rattle.logos_reduce.specs.Lists.{has, has_in}

pub has-push : (xs : List ℕ) (y t : ℕ) → has xs t ≡ true → has (xs ++ y ∷ []) t ≡ true
has-push xs y t h = list_any-append (λ x. eqb t x) xs (y ∷ []) ∙ ap (λ (b : Bool). b || list_any (λ x. eqb t x) (y ∷ [])) h

or-true : (b : Bool) → (b || true) ≡ true
or-true true = refl
or-true false = refl

or_cases : (a b : Bool) → (a || b) ≡ true → (a ≡ true) ⊎ (b ≡ true)
or_cases true b e = inl refl
or_cases false b e = inr e

pub has-push_at : (xs : List ℕ) (y : ℕ) → has (xs ++ y ∷ []) y ≡ true
has-push_at xs y = list_any-append (λ x. eqb y x) xs (y ∷ []) ∙ ap (λ (b : Bool). list_any (λ x. eqb y x) xs || (b || false)) (eq-eqb y y refl) ∙ or-true (list_any (λ x. eqb y x) xs)

pub has-push_only : (xs : List ℕ) (y t : ℕ) → has (xs ++ y ∷ []) t ≡ true → (has xs t ≡ true) ⊎ (t ≡ y)
has-push_only xs y t h = go (or_cases (has xs t) (eqb t y || false) (sym (list_any-append (λ x. eqb t x) xs (y ∷ [])) ∙ h))
  where
    one : (b : Bool) → eqb t y ≡ b → (b || false) ≡ true → t ≡ y
    one true q e = go' (eqb_tells t y)
      where
        go' : ((eqb t y ≡ true) × (t ≡ y)) ⊎ ((eqb t y ≡ false) × (t ≢ y)) → t ≡ y
        go' (inl x) = x.1
        go' (inr x) = absurd (cc (x.0))
    one false q e = absurd (cc)

    go : (has xs t ≡ true) ⊎ ((eqb t y || false) ≡ true) → (has xs t ≡ true) ⊎ (t ≡ y)
    go (inl x) = inl x
    go (inr x) = inr (one (eqb t y) refl x)

pub has-get : (xs : List ℕ) (i : ℕ) → i < length xs → has xs (slice_index xs i) ≡ true
has-get xs i l = list_any_at (λ x. eqb (slice_index xs i) x) xs i 0 l (eq-eqb (slice_index xs i) (slice_index xs i) refl)

pub has-got : (xs : List ℕ) (i s : ℕ) → slice_get xs i ≡ Some s → has xs s ≡ true
has-got [] i s e = absurd (cc)
has-got (x ∷ xs) zero s e = let q : s ≡ x = cc in ap (λ (b : Bool). b || has xs s) (eq-eqb s x q)
has-got (x ∷ xs) (suc i) s e = ap (λ (b : Bool). eqb s x || b) (has-got xs i s e) ∙ or-true (eqb s x)

pub has_in-set : (lists : List (Vec ℕ Global)) (b : ℕ) (u v : Vec ℕ Global) → b < length lists → u ≡ get_or lists b u →
    ((t : ℕ) → has u.items t ≡ true → has v.items t ≡ true) → (c t : ℕ) → has_in lists c t ≡ true → has_in (slice_set lists b v) c t ≡ true
has_in-set [] b u v l e k c t h = absurd (omega arith)
has_in-set (x ∷ xs) zero u v l e k zero t h = k t (ap (λ (w : Vec ℕ Global). has w.items t) e ∙ h)
has_in-set (x ∷ xs) zero u v l e k (suc c) t h = h
has_in-set (x ∷ xs) (suc b) u v l e k zero t h = h
has_in-set (x ∷ xs) (suc b) u v l e k (suc c) t h = has_in-set xs b u v (omega arith) e k c t h

pub has_in-set_at : (lists : List (Vec ℕ Global)) (b : ℕ) (v : Vec ℕ Global) (t : ℕ) → b < length lists → has v.items t ≡ true → has_in (slice_set lists b v) b t ≡ true
has_in-set_at [] b v t l h = absurd (omega arith)
has_in-set_at (x ∷ xs) zero v t l h = h
has_in-set_at (x ∷ xs) (suc b) v t l h = has_in-set_at xs b v t (omega arith) h

pub has_in-set_only : (lists : List (Vec ℕ Global)) (b s : ℕ) (u v : Vec ℕ Global) → b < length lists → u ≡ get_or lists b u →
    ((t : ℕ) → has v.items t ≡ true → (has u.items t ≡ true) ⊎ (t ≡ s)) →
    (c t : ℕ) → has_in (slice_set lists b v) c t ≡ true → (has_in lists c t ≡ true) ⊎ ((c ≡ b) × (t ≡ s))
has_in-set_only [] b s u v l e k c t h = absurd (omega arith)
has_in-set_only (x ∷ xs) zero s u v l e k zero t h = go (k t h)
  where
    go : (has u.items t ≡ true) ⊎ (t ≡ s) → (has x.items t ≡ true) ⊎ ((zero ≡ zero) × (t ≡ s))
    go (inl q) = inl (ap (λ (w : Vec ℕ Global). has w.items t) (sym e) ∙ q)
    go (inr q) = inr (refl, q)
has_in-set_only (x ∷ xs) zero s u v l e k (suc c) t h = inl h
has_in-set_only (x ∷ xs) (suc b) s u v l e k zero t h = inl h
has_in-set_only (x ∷ xs) (suc b) s u v l e k (suc c) t h = go (has_in-set_only xs b s u v (omega arith) e k c t h)
  where
    go : (has_in xs c t ≡ true) ⊎ ((c ≡ b) × (t ≡ s)) → (has_in xs c t ≡ true) ⊎ ((suc c ≡ suc b) × (t ≡ s))
    go (inl q) = inl q
    go (inr q) = inr (ap suc q.0, q.1)

pub has_in-get : (lists : List (Vec ℕ Global)) (b : ℕ) (u : Vec ℕ Global) (t : ℕ) → b < length lists → u ≡ get_or lists b u → has_in lists b t ≡ has u.items t
has_in-get [] b u t l e = absurd (omega arith)
has_in-get (x ∷ xs) zero u t l e = ap (λ (w : Vec ℕ Global). has w.items t) (sym e)
has_in-get (x ∷ xs) (suc b) u t l e = has_in-get xs b u t (omega arith) e

pub has-append_right : (xs ys : List ℕ) (s : ℕ) → has ys s ≡ true → has (xs ++ ys) s ≡ true
has-append_right xs ys s h = list_any-append (λ x. eqb s x) xs ys ∙ ap (λ (b : Bool). has xs s || b) h ∙ or-true (has xs s)

pub has_index : (xs : List ℕ) (s : ℕ) → has xs s ≡ true → (j : ℕ) × (j < length xs) × (slice_index xs j ≡ s)
has_index [] s h = absurd (cc)
has_index (x ∷ xs) s h = elim (eqb_tells s x) [
  | inl e ↦ (0, omega arith, sym e.1)
  | inr d ↦ let h' : has xs s ≡ true = sym (ap (λ (b : Bool). b || has xs s) d.0) ∙ h in let p = has_index xs s h' in (suc p.0, omega (arith, p.1), p.2)
]

-- an empty list more
pub has_in-push_empty : (lists : List (Vec ℕ Global)) (v : Vec ℕ Global) (b s : ℕ) → v.items ≡ [] → has_in (lists ++ v ∷ []) b s ≡ true → has_in lists b s ≡ true
has_in-push_empty [] v zero s e h = absurd (let q = ap (λ (xs : List ℕ). has xs s) e in cc)
has_in-push_empty [] v (suc b) s e h = h
has_in-push_empty (x ∷ xs) v zero s e h = h
has_in-push_empty (x ∷ xs) v (suc b) s e h = has_in-push_empty xs v b s e h
