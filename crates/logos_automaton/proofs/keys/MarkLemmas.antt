-- The bytes that a pattern distinguishes from the byte before, marked in one walk over it.
use Rattle.std.proofs.Common.{◌≡◌, ◌≢◌, ℕ, ◌+◌, ◌-◌, ◌<◌, ◌≤◌, ◌⊎◌, ◌==◌, Bool, true, false, ◌||◌, ◌&&◌, nat_le, List, [], ◌∷◌, length, drop, set, get_or, slice_index_or, drop-cons, add-one, refl, sym, ap, ◌∙◌, subst, ⊎_elim, length-set, arith}
use Rattle.std.proofs.lemmas.Bool.Decides.{nat_tests}
use Rattle.std.proofs.lemmas.List.{get_or-set_other}
use Rattle.std.proofs.lemmas.Grind.{get_or-set_at}
use Rattle.logos_hir.specs.ByteRanges.{is_in}
use Rattle.logos_hir.specs.Hir.{pairs}
use Rattle.logos_hir.specs.declared.hir.Range.{Range}

-- a range distinguishes from the byte before it its first byte alone, and the one after its last
pub range_alike : (first last x : ℕ) → x + 1 ≢ first → x + 1 ≢ last + 1 → is_in ((first, last) ∷ []) x ≡ is_in ((first, last) ∷ []) (x + 1)
range_alike first last x f l = grind (arith, nat_tests)

-- one more range of a class
pub ranges_more : (ranges : List Range) (i : ℕ) (d : Range) (x : ℕ) → i < length ranges →
    (is_in (pairs (drop i ranges)) x ≡ is_in (pairs (drop i ranges)) (x + 1) → is_in (pairs ranges) x ≡ is_in (pairs ranges) (x + 1)) →
    is_in (((get_or ranges i d).first, (get_or ranges i d).last) ∷ []) x ≡ is_in (((get_or ranges i d).first, (get_or ranges i d).last) ∷ []) (x + 1) →
    is_in (pairs (drop (i + 1) ranges)) x ≡ is_in (pairs (drop (i + 1) ranges)) (x + 1) → is_in (pairs ranges) x ≡ is_in (pairs ranges) (x + 1)
ranges_more ranges i d x lt before one rest =
    let r = get_or ranges i d in
    let e : drop i ranges ≡ get_or ranges i d ∷ drop (i + 1) ranges = drop-cons ranges i d lt ∙ ap (λ k. get_or ranges i d ∷ drop k ranges) (sym (add-one i)) in
    let at : (y : ℕ) → is_in (pairs (drop i ranges)) y ≡ (is_in ((r.first, r.last) ∷ []) y || is_in (pairs (drop (i + 1) ranges)) y) =
    λ y. ap (λ rs. is_in (pairs rs) y) e ∙ ap (λ b. b || is_in (pairs (drop (i + 1) ranges)) y) (sym (or_false (nat_le r.first y && nat_le y r.last))) in
    before (at x ∙ ap (λ b. b || is_in (pairs (drop (i + 1) ranges)) x) one ∙ ap (λ b. is_in ((r.first, r.last) ∷ []) (x + 1) || b) rest ∙ sym (at (x + 1)))
  where
    or_false : (b : Bool) → (b || false) ≡ b
    or_false true = refl
    or_false false = refl

-- a byte is a range of one byte
pub one_byte : (b y : ℕ) → is_in ((b, b) ∷ []) y ≡ (y == b)
one_byte b y = grind (arith, nat_tests)

below_or_same : (a b : ℕ) → a < b + 1 → (a < b) ⊎ (a ≡ b)
below_or_same a b lt = grind arith

-- While the bytes are processed in order: those below n are done, and those from n on are
-- unchanged.
pub record AreMarkedBelow (Same : ℕ → ℕ → Type 0) (old new : List Bool) (n : ℕ) : Type 0 where
  pub size : length new ≡ 256
  pub done : (x : ℕ) → x + 1 < n → slice_index_or new (x + 1) false ≡ false → (slice_index_or old (x + 1) false ≡ false) × Same x (x + 1)
  pub left : (x : ℕ) → n ≤ x → slice_index_or new x false ≡ slice_index_or old x false

-- one more byte is processed
pub marked_more : (Same : ℕ → ℕ → Type 0) (old new : List Bool) (n : ℕ) (was is : Bool) → 1 ≤ n → n < 256 → was ≡ slice_index_or new n false → (is ≡ false → Same (n - 1) n) →
    AreMarkedBelow Same old new n → AreMarkedBelow Same old (set new n (was || is)) (n + 1)
marked_more Same old new n was is some lt same alike h = record {
  size = length-set new n (was || is) ∙ h.size;
  done = λ x low unmarked. ⊎_elim
      (λ below. h.done x below (sym (get_or-set_other new n (x + 1) (was || is) false (λ e. omega (arith, e, below))) ∙ unmarked))
      (λ here.
      let both = neither was is (sym (get_or-set_at new n (x + 1) (was || is) false here (omega (arith, h.size))) ∙ unmarked) in
      let back : n - 1 ≡ x = omega (arith, here) in (
        ap (λ k. slice_index_or old k false) here ∙ sym (h.left n (omega arith)) ∙ sym same ∙ both.0,
        subst (λ k. Same x k) (sym here) (subst (λ k. Same k n) back (alike both.1)),
      ))
      (below_or_same (x + 1) n low);
  left = λ x high. get_or-set_other new n x (was || is) false (λ e. omega (arith, e, high)) ∙ h.left x (omega arith);
}
  where
    neither : (a b : Bool) → (a || b) ≡ false → (a ≡ false) × (b ≡ false)
    neither true b e = absurd (cc)
    neither false b e = (refl, e)
