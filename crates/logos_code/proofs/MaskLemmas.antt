-- Masks of tests.
use Rattle.std.proofs.Common.{◌≡◌, ℕ, zero, suc, ◌+◌, ◌*◌, ◌^◌, ◌<◌, ◌⊎◌, ⊎_elim, ◌++◌, ◌==◌, Bool, true, false, cond, List, [], ◌∷◌, length, get_or, slice_index_or, subst, refl, ap, ◌∙◌, arith}
use Rattle.std.proofs.lemmas.List.{get_or_append_left, get_or_push}
use Rattle.std.proofs.lemmas.Simd.{bit_mask_l}
use Rattle.std.specs.Int.{bit_at}
use lib.Lanes.{mask_l}
use Rattle.logos_code.specs.Bytes.{passes_test}
use Rattle.logos_code.specs.Masks.{IsMask}

-- the bit of a byte as a digit
digit : (passes : Bool) (k : ℕ) → cond passes (2 ^ k) 0 ≡ 2 ^ k * cond passes 1 0
digit true k = omega arith
digit false k = omega arith

-- eight digits
pub digits : (a b c d e f g h : Bool) →
    cond a (2 ^ 0) 0 + cond b (2 ^ 1) 0 + cond c (2 ^ 2) 0 + cond d (2 ^ 3) 0 + cond e (2 ^ 4) 0 + cond f (2 ^ 5) 0 + cond g (2 ^ 6) 0 + cond h (2 ^ 7) 0
    ≡ mask_l (a ∷ b ∷ c ∷ d ∷ e ∷ f ∷ g ∷ h ∷ [])
digits a b c d e f g h = omega (arith, digit a 0, digit b 1, digit c 2, digit d 3, digit e 4, digit f 5, digit g 6, digit h 7)

is_one : (b : Bool) → (cond b 1 0 == 1) ≡ b
is_one true = refl
is_one false = refl

-- the digits of a number
pub bit_of_digits : (flags : List Bool) (n k : ℕ) → n ≡ mask_l flags → (bit_at n k == 1) ≡ get_or flags k false
bit_of_digits flags n k is = ap (λ m. bit_at m k == 1) is ∙ ap (λ b. b == 1) (bit_mask_l flags k) ∙ is_one (get_or flags k false)

-- the eight bytes of an entry
module _ (p : ℕ → Bool) (first n : ℕ) (a b c d e f g h : Bool)
    (sum : n ≡ cond a (2 ^ 0) 0 + cond b (2 ^ 1) 0 + cond c (2 ^ 2) 0 + cond d (2 ^ 3) 0 + cond e (2 ^ 4) 0 + cond f (2 ^ 5) 0 + cond g (2 ^ 6) 0 + cond h (2 ^ 7) 0)
    (is_a : a ≡ p first) (is_b : b ≡ p (first + 16)) (is_c : c ≡ p (first + 32)) (is_d : d ≡ p (first + 48))
    (is_e : e ≡ p (first + 64)) (is_f : f ≡ p (first + 80)) (is_g : g ≡ p (first + 96)) (is_h : h ≡ p (first + 112)) where
  abbrev flags : List Bool
  flags = a ∷ b ∷ c ∷ d ∷ e ∷ f ∷ g ∷ h ∷ []

  flag : (k : ℕ) → k < 8 → get_or flags k false ≡ p (first + 16 * k)
  flag zero l = is_a ∙ ap p (omega arith)
  flag (suc zero) l = is_b ∙ ap p (omega arith)
  flag (suc (suc zero)) l = is_c ∙ ap p (omega arith)
  flag (suc (suc (suc zero))) l = is_d ∙ ap p (omega arith)
  flag (suc (suc (suc (suc zero)))) l = is_e ∙ ap p (omega arith)
  flag (suc (suc (suc (suc (suc zero))))) l = is_f ∙ ap p (omega arith)
  flag (suc (suc (suc (suc (suc (suc zero)))))) l = is_g ∙ ap p (omega arith)
  flag (suc (suc (suc (suc (suc (suc (suc zero))))))) l = is_h ∙ ap p (omega arith)
  flag (suc (suc (suc (suc (suc (suc (suc (suc k)))))))) l = absurd (omega (arith, l))

  pub entry_describes : (k : ℕ) → k < 8 → (bit_at n k == 1) ≡ p (first + 16 * k)
  entry_describes k l = bit_of_digits flags n k (sum ∙ digits a b c d e f g h) ∙ flag k l

-- one more mask
pub masks_turn : (tables masks new : List (List ℕ)) (mask : List ℕ) (s : ℕ) → length masks ≡ s → new ≡ masks ++ mask ∷ [] → IsMask (passes_test tables s) mask →
    ((k : ℕ) → k < s → IsMask (passes_test tables k) (slice_index_or masks k [])) →
    (k : ℕ) → k < s + 1 → IsMask (passes_test tables k) (slice_index_or new k [])
masks_turn tables masks new mask s long is last before k h = ⊎_elim old now (either k s h)
  where
    either : (a b : ℕ) → a < b + 1 → (a < b) ⊎ (b ≡ a)
    either a b h = grind arith

    old : k < s → IsMask (passes_test tables k) (slice_index_or new k [])
    old l = rw (is, get_or_append_left masks (mask ∷ []) [] k (omega (arith, l, long))) (before k l)

    now : s ≡ k → IsMask (passes_test tables k) (slice_index_or new k [])
    now e = subst (λ n. IsMask (passes_test tables n) (slice_index_or new n [])) e (rw (is, get_or_push masks mask [] s long) last)
