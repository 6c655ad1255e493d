-- Values that are found by their texts, and the changes when one is added or replaced.
use Rattle.std.proofs.Common.{◌≡◌, ℕ, zero, suc, ◌<◌, List, [], ◌∷◌, ◌++◌, length, get_or, slice_set, Bool, true, false, if◌then◌else◌, cond, Option, Some, None, option_map, IfSome, Bor, refl, sym, ap, ◌∙◌, arith, subst, map, true≢false}
use Rattle.std.specs.Map.{lookup}
use Rattle.std.specs.Str.{bytes_eq}
use Rattle.logos_type_params.specs.Substitution.{param_value}
use Rattle.logos_type_params.specs.inside.Chains.{OccursAt}
use Rattle.logos_type_params.specs.inside.Slots.{slot_in, ArePlaced, put_in}
use Rattle.logos_type_params.proofs.ChainLemmas.{Text, Entries, eq_sym, same_text}

some_suc : (r : Option ℕ) (i : ℕ) → option_map suc r ≡ Some (suc i) → r ≡ Some i
some_suc None i h = absurd cc
some_suc (Some j) i h = let k : suc j ≡ suc i = cc in ap (λ (n : ℕ). Some n) (omega (arith, k))

no_zero : (r : Option ℕ) → option_map suc r ≡ Some 0 → ⊥
no_zero None h = absurd cc
no_zero (Some j) h = let k : suc j ≡ 0 = cc in omega (arith, k)

no_slot : (r : Option ℕ) → option_map suc r ≡ None → r ≡ None
no_slot None h = refl
no_slot (Some j) h = absurd cc

abbrev Rows : Type 0 → Type 0
Rows X = List (Bor Text × X)

module _ {X : Type 0} where
  -- the first value is the one that is found, or a later one is, or none
  pub slot_first : (t : Text) (e : Bor Text × X) (es : Rows X) → slot_in (e ∷ es) t ≡ Some 0 → bytes_eq t e.0.now ≡ true
  slot_first t e es h = go (bytes_eq t e.0.now) refl
    where
      go : (b : Bool) → bytes_eq t e.0.now ≡ b → bytes_eq t e.0.now ≡ true
      go true q = q
      go false q = absurd (no_zero (slot_in es t) (rw q at h))

  pub slot_later : (t : Text) (e : Bor Text × X) (es : Rows X) (i : ℕ) → slot_in (e ∷ es) t ≡ Some (suc i) → (bytes_eq t e.0.now ≡ false) × (slot_in es t ≡ Some i)
  slot_later t e es i h = go (bytes_eq t e.0.now) refl
    where
      zero_suc : Some 0 ≡ Some (suc i) → ⊥
      zero_suc k = cc

      go : (b : Bool) → bytes_eq t e.0.now ≡ b → (bytes_eq t e.0.now ≡ false) × (slot_in es t ≡ Some i)
      go true q = absurd (zero_suc (rw q at h))
      go false q = (q, some_suc (slot_in es t) i (rw q at h))

  pub slot_none : (t : Text) (e : Bor Text × X) (es : Rows X) → slot_in (e ∷ es) t ≡ None → (bytes_eq t e.0.now ≡ false) × (slot_in es t ≡ None)
  slot_none t e es h = go (bytes_eq t e.0.now) refl
    where
      some_none : (i : ℕ) → Some i ≡ None → ⊥
      some_none i k = cc

      go : (b : Bool) → bytes_eq t e.0.now ≡ b → (bytes_eq t e.0.now ≡ false) × (slot_in es t ≡ None)
      go true q = absurd (some_none 0 (rw q at h))
      go false q = (q, no_slot (slot_in es t) (rw q at h))

  pub slot_within : (t : Text) (es : Rows X) (i : ℕ) → slot_in es t ≡ Some i → i < length es
  slot_within t [] i h = absurd cc
  slot_within t (e ∷ es) zero h = omega arith
  slot_within t (e ∷ es) (suc i) h = let r = slot_within t es i (slot_later t e es i h).1 in omega (arith, r)

  -- the value at the index, and no value without one
  pub found_at : (t : Text) (es : Rows X) (i : ℕ) (d : Bor Text × X) → slot_in es t ≡ Some i → lookup (λ (k : Bor Text). bytes_eq t k.now) es ≡ Some (get_or es i d).1
  found_at t [] i d h = absurd cc
  found_at t (e ∷ es) zero d h = rw (slot_first t e es h) refl
  found_at t (e ∷ es) (suc i) d h = let l = slot_later t e es i h in rw l.0 (found_at t es i d l.1)

  pub found_none : (t : Text) (es : Rows X) → slot_in es t ≡ None → lookup (λ (k : Bor Text). bytes_eq t k.now) es ≡ None
  found_none t [] h = refl
  found_none t (e ∷ es) h = let l = slot_none t e es h in rw l.0 (found_none t es l.1)

  -- one value more: where its text has a slot, and where it has none
  pub put_at : (entry : Bor Text × X) (es : Rows X) (i : ℕ) → slot_in es entry.0.now ≡ Some i → slice_set es i entry ≡ put_in entry es
  put_at entry [] i h = absurd cc
  put_at entry (e ∷ es) zero h = rw (slot_first entry.0.now e es h) refl
  put_at entry (e ∷ es) (suc i) h = let l = slot_later entry.0.now e es i h in rw l.0 (ap (λ (xs : Rows X). e ∷ xs) (put_at entry es i l.1))

  pub put_last : (entry : Bor Text × X) (es : Rows X) → slot_in es entry.0.now ≡ None → es ++ entry ∷ [] ≡ put_in entry es
  put_last entry [] h = refl
  put_last entry (e ∷ es) h = let l = slot_none entry.0.now e es h in rw l.0 (ap (λ (xs : Rows X). e ∷ xs) (put_last entry es l.1))

  -- the slots stay where a value is replaced
  same_slots : (entry : Bor Text × X) (es : Rows X) (i : ℕ) → slot_in es entry.0.now ≡ Some i → (q : Text) → slot_in es q ≡ slot_in (slice_set es i entry) q
  same_slots entry [] i h q = absurd cc
  same_slots entry (e ∷ es) zero h q = ap (λ (x : Text). if bytes_eq q x then Some 0 else option_map suc (slot_in es q)) (sym (same_text entry.0.now e.0.now (slot_first entry.0.now e es h)))
  same_slots entry (e ∷ es) (suc i) h q = ap (λ (r : Option ℕ). if bytes_eq q e.0.now then Some 0 else option_map suc r) (same_slots entry es i (slot_later entry.0.now e es i h).1 q)

  pub placed_set : (entry : Bor Text × X) (es : Rows X) (slots : List (Bor Text × ℕ)) (i : ℕ) → ArePlaced es slots → slot_in es entry.0.now ≡ Some i → ArePlaced (slice_set es i entry) slots
  placed_set entry es slots i are h q = are q ∙ same_slots entry es i h q.now

  -- a new one has the slot after all others
  slot_last : (entry : Bor Text × X) (es : Rows X) (q : Text) → slot_in es q ≡ None → bytes_eq q entry.0.now ≡ true → slot_in (es ++ entry ∷ []) q ≡ Some (length es)
  slot_last entry [] q h e = rw e refl
  slot_last entry (x ∷ es) q h e = let l = slot_none q x es h in rw l.0 (ap (λ (r : Option ℕ). option_map suc r) (slot_last entry es q l.1 e))

  slot_other : (entry : Bor Text × X) (es : Rows X) (q : Text) → bytes_eq q entry.0.now ≡ false → slot_in (es ++ entry ∷ []) q ≡ slot_in es q
  slot_other entry [] q e = rw e refl
  slot_other entry (x ∷ es) q e = ap (λ (r : Option ℕ). if bytes_eq q x.0.now then Some 0 else option_map suc r) (slot_other entry es q e)

  pub placed_push : (entry : Bor Text × X) (es : Rows X) (slots slots' : List (Bor Text × ℕ)) (at : ℕ) → ArePlaced es slots → slot_in es entry.0.now ≡ None → at ≡ length es →
      ((q : Bor Text) → lookup (λ (k : Bor Text). bytes_eq q.now k.now) slots' ≡ cond (bytes_eq entry.0.now q.now) (Some at) (lookup (λ (k : Bor Text). bytes_eq q.now k.now) slots)) →
      ArePlaced (es ++ entry ∷ []) slots'
  placed_push entry es slots slots' at are h len put q = go (bytes_eq entry.0.now q.now) refl
    where
      go : (b : Bool) → bytes_eq entry.0.now q.now ≡ b → lookup (λ (k : Bor Text). bytes_eq q.now k.now) slots' ≡ slot_in (es ++ entry ∷ []) q.now
      go true e = put q ∙ rw (e, len) (sym (slot_last entry es q.now (subst (λ (x : Text). slot_in es x ≡ None) (same_text entry.0.now q.now e) h) (eq_sym q.now entry.0.now ∙ e)))
      go false e = put q ∙ rw e (are q ∙ sym (slot_other entry es q.now (eq_sym q.now entry.0.now ∙ e)))

  pub within_by : (t : Text) (es : Rows X) (r : Option ℕ) → r ≡ slot_in es t → IfSome r (λ i. i < length es)
  within_by t es None h = tt
  within_by t es (Some i) h = slot_within t es i (sym h)

-- the types are at the indexes of their names
pub placed : (t : Text) (es : Entries) (i : ℕ) → slot_in es t ≡ Some i → OccursAt (map param_value es) t i
placed t [] i h = absurd cc
placed t (e ∷ es) zero h = eq_sym e.0.now t ∙ slot_first t e es h
placed t (e ∷ es) (suc i) h = let l = slot_later t e es i h in (eq_sym e.0.now t ∙ l.0, placed t es i l.1)

pub unplaced : (t : Text) (es : Entries) → slot_in es t ≡ None → (i : ℕ) → OccursAt (map param_value es) t i → ⊥
unplaced t [] h i s = s
unplaced t (e ∷ es) h zero s = true≢false (sym s ∙ eq_sym e.0.now t ∙ (slot_none t e es h).0)
unplaced t (e ∷ es) h (suc i) s = unplaced t es (slot_none t e es h).1 i s.1
