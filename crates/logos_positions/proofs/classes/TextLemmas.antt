-- Texts within bytes, byte by byte.
use Rattle.std.proofs.Common.{◌≡◌, ℕ, zero, suc, ◌+◌, ◌-◌, ◌≤◌, true, ◌&&◌, List, [], ◌∷◌, length, take, drop, slice_get, slice_range, Some, nat_le, sym, ap, ◌∙◌, subst, arith, drop-cons}
use Rattle.std.proofs.Math.Seq.{drop-nil}
use Rattle.std.proofs.lemmas.Option.{slice_get_within, get_or_from_slice_get}
use Rattle.std.proofs.lemmas.List.Folds.{Any-from_list_any, list_any-from_Any}
use Rattle.std.proofs.lemmas.Bool.{and_parts, and_from}
use Rattle.std.proofs.lemmas.Bool.Decides.{nat_tests}
use Rattle.logos_hir.specs.Text.{OccursAt, InRanges}
use Rattle.logos_hir.specs.ByteRanges.{is_in}
use Rattle.logos_positions.specs.inside.Reader.{Spells}

-- a byte before the rest
pub drop_at : (bytes : List ℕ) (i b : ℕ) → slice_get bytes i ≡ Some b → drop i bytes ≡ b ∷ drop (suc i) bytes
drop_at bytes i b h =
    drop-cons bytes i 0 (slice_get_within bytes i b h) ∙ ap (λ x. x ∷ drop (suc i) bytes) (get_or_from_slice_get bytes i b 0 h)

pub at_drop : (bytes : List ℕ) (i b : ℕ) (rest : List ℕ) → drop i bytes ≡ b ∷ rest → (slice_get bytes i ≡ Some b) × (drop (suc i) bytes ≡ rest)
at_drop [] i b rest h = let e : [] ≡ b ∷ rest = sym (drop-nil i) ∙ h in absurd (cc)
at_drop (x ∷ bytes) zero b rest h = (cc, cc)
at_drop (x ∷ bytes) (suc i) b rest h = at_drop bytes i b rest h

pub Spells-end : (bytes text : List ℕ) (i j : ℕ) → Spells bytes text i j → j ≡ i + length text
Spells-end bytes [] i j h = omega (arith, h)
Spells-end bytes (b ∷ text) i j h = omega (arith, Spells-end bytes text (suc i) j h.1)

pub OccursAt-of_Spells : (bytes text : List ℕ) (i j : ℕ) → Spells bytes text i j → OccursAt text bytes i j
OccursAt-of_Spells bytes text i j h = record { end = Spells-end bytes text i j h; here = here text i j h }
  where
    here : (text : List ℕ) (i j : ℕ) → Spells bytes text i j → slice_range bytes i j ≡ text
    here [] i j h = let e : j - i ≡ 0 = omega (arith, h) in ap (λ n. take n (drop i bytes)) e
    here (b ∷ text) i j h =
        let end = Spells-end bytes text (suc i) j h.1 in
        let e : j - i ≡ suc (j - suc i) = omega (arith, end) in
        ap (λ n. take n (drop i bytes)) e ∙ ap (take (suc (j - suc i))) (drop_at bytes i b h.0) ∙ ap (λ xs. b ∷ xs) (here text (suc i) j h.1)

pub Spells-of_OccursAt : (bytes text : List ℕ) (i j : ℕ) → OccursAt text bytes i j → Spells bytes text i j
Spells-of_OccursAt bytes text i j h = go text i j h.end h.here
  where
    front : (n : ℕ) (xs : List ℕ) (b : ℕ) (text : List ℕ) → take (suc n) xs ≡ b ∷ text → (rest : List ℕ) × (xs ≡ b ∷ rest) × (take n rest ≡ text)
    front n [] b text e = absurd (cc)
    front n (x ∷ xs) b text e = (xs, cc, cc)

    go : (text : List ℕ) (i j : ℕ) → j ≡ i + length text → slice_range bytes i j ≡ text → Spells bytes text i j
    go [] i j e h = omega (arith, e)
    go (b ∷ text) i j e h =
        let n : j - i ≡ suc (j - suc i) = omega (arith, e) in
        let f = front (j - suc i) (drop i bytes) b text (subst (λ k. take k (drop i bytes) ≡ b ∷ text) n h) in
        let at = at_drop bytes i b f.0 f.1 in
        let rest = take (j - suc i) f.0 in
        let same : slice_range bytes (suc i) j ≡ rest = ap (take (j - suc i)) {y = f.0} at.1 in
        let here : slice_range bytes (suc i) j ≡ text = same ∙ f.2 in
        (at.0, go text (suc i) j (omega (arith, e)) here)

pub InRanges-of_is_in : (ranges : List (ℕ × ℕ)) (n : ℕ) → is_in ranges n ≡ true → InRanges ranges n
InRanges-of_is_in ranges n h =
    let u = Any-from_list_any (λ (r : ℕ × ℕ). nat_le r.0 n && nat_le n r.1) ranges h in
    let p = and_parts (nat_le u.1.0 n) (nat_le n u.1.1) u.4 in
    (u.0, u.1, u.2, u.3, (low u.1.0 n p.0, low n u.1.1 p.1))
  where
    low : (a b : ℕ) → nat_le a b ≡ true → a ≤ b
    low a b h = grind (arith, nat_tests)

pub is_in-of_InRanges : (ranges : List (ℕ × ℕ)) (n : ℕ) → InRanges ranges n → is_in ranges n ≡ true
is_in-of_InRanges ranges n (k, r, lt, is, (le, le')) =
    list_any-from_Any (λ (r : ℕ × ℕ). nat_le r.0 n && nat_le n r.1) ranges (k, r, lt, is, and_from (nat_le r.0 n) (nat_le n r.1) (low r.0 n le) (low n r.1 le'))
  where
    low : (a b : ℕ) → a ≤ b → nat_le a b ≡ true
    low a b h = grind (arith, nat_tests)
