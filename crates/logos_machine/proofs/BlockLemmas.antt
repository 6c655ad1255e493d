-- Sixteen bytes, looked up in a mask.
use Rattle.std.proofs.Common.{◌≡◌, ℕ, zero, suc, ◌+◌, ◌-◌, ◌*◌, ◌/◌, ◌%◌, ◌^◌, ◌<◌, ◌≤◌, ◌==◌, Bool, not, cond, eqb, List, [], ◌∷◌, map, length, get_or, slice_index, replicate, take, drop, bit_and, bit_or, refl, sym, ap, ◌∙◌, inl, inr, arith, w8, Fits, pow_pos}
use Rattle.std.proofs.lemmas.Bool.{cases_lt, eq-eqb, ne_eqb}
use Rattle.std.proofs.lemmas.List.{get_or-map, get_or-take, get_or-drop, length-map, ext_get_or}
use Rattle.std.proofs.lemmas.Nat.{and_le_r, and_mask}
use Rattle.std.proofs.lemmas.Nat.Bits.{and_pow, bit_at-lt}
use Rattle.std.proofs.lemmas.Simd.{Each1-all, Each1-weaker, Each1-zip2, Each2-splat, below_from_Fits, bitmask_splat, zip2-map, zip2_splat, length-zip2, get_or-chunk, swz_l, SwzOk, SwzOk-from_below, length-swz_l, get_or-swz_l_below}
use Rattle.std.specs.Int.{bit_at}
use Rattle.std.specs.Int.Bits.{and_zero_r, or_zero_l, or_zero_r}
use lib.Lanes.{zip2, chunk, mask_l, top, Each1}
use Rattle.logos_code.specs.Masks.{IsMask}
use Rattle.logos_machine.specs.declared.machine.fast_loop.TheConstants.{NEAR, FAR}

abbrev pub IsBlock : List ℕ → Type 0
IsBlock v = (length v ≡ 16) × Each1 (Fits w8) v

abbrev pub down : ℕ → ℕ → ℕ
down a b = a / 2 ^ b

-- halves of bytes are offsets of sixteen entries
pub high_ok : (v : List ℕ) → IsBlock v → SwzOk w8 16 16 0 (zip2 down v (replicate 16 4))
high_ok v fits =
    let small = Each1-weaker (λ a. a < 256) (λ a. a / 16 < 16) (λ a h. omega arith) v (below_from_Fits w8 v fits.1) in
    SwzOk-from_below w8 16 1 16 0 (zip2 down v (replicate 16 4)) refl (omega (arith, length-zip2 down v (replicate 16 4) fits.0))
    (Each1-zip2 down (λ j. j < 16) v (replicate 16 4) (Each2-splat (λ a b. down a b < 16) v 16 4 small))

pub low_ok : (v : List ℕ) → IsBlock v → SwzOk w8 16 16 0 (zip2 bit_and v (replicate 16 15))
low_ok v fits =
    let small = Each1-all (λ a. bit_and a 15 < 16) (λ a. omega (arith, and_le_r a 15)) v in
    SwzOk-from_below w8 16 1 16 0 (zip2 bit_and v (replicate 16 15)) refl (omega (arith, length-zip2 bit_and v (replicate 16 15) fits.0))
    (Each1-zip2 bit_and (λ j. j < 16) v (replicate 16 15) (Each2-splat (λ a b. bit_and a b < 16) v 16 15 small))

pub lane_fits : (v : List ℕ) (i : ℕ) → Each1 (Fits w8) v → get_or v i 0 < 256
lane_fits [] i h = omega arith
lane_fits (x ∷ xs) zero h = h.0.fits
lane_fits (x ∷ xs) (suc i) h = lane_fits xs i h.1

pub lanes_fit : (v : List ℕ) → ((i : ℕ) → get_or v i 0 < 256) → Each1 (Fits w8) v
lanes_fit [] h = tt
lanes_fit (x ∷ xs) h = (record { fits = h 0 }, lanes_fit xs (λ i. h (suc i)))

-- the entries of a table at the indexes g x below 16, which are the values of f
pub looked_up : (t : List ℕ) (f g : ℕ → ℕ) (v js : List ℕ) → IsBlock v → js ≡ map g v → ((x : ℕ) → x < 256 → g x < 16) → ((x : ℕ) → x < 256 → get_or t (g x) 0 ≡ f x) →
    swz_l w8 16 t 0 js ≡ map f v
looked_up t f g v js fits e small describes =
    let long : length js ≡ 16 = ap length e ∙ length-map v g ∙ fits.0 in
    ext_get_or 0 _ _ (length-swz_l w8 16 t 0 js ∙ long ∙ sym (length-map v f ∙ fits.0)) (λ i h.
    let lt : i < 16 = omega (arith, h, length-swz_l w8 16 t 0 js, long) in
    let within : i < length v = omega (arith, lt, fits.0) in
    let x = get_or v i 0 in
    let fit : x < 256 = lane_fits v i fits.1 in
    let is : get_or js i 0 ≡ g x = ap (λ l. get_or l i 0) e ∙ get_or-map g v i 0 0 within in
    let below : get_or js i 0 < 16 = omega (arith, is, small x fit) in
    let first : 16 * ((0 + i) / 16) + get_or js i 0 ≡ get_or js i 0 = omega (arith, lt) in
    get_or-swz_l_below w8 16 t 0 js i (omega (arith, lt, long)) below
    ∙ ap (λ k. get_or t k 0) (first ∙ is) ∙ describes x fit ∙ sym (get_or-map f v i 0 0 within))

-- by lower halves, in the entries from an offset on
pub by_low : (mask : List ℕ) (at : ℕ) (v : List ℕ) → at ≤ 16 → IsBlock v →
    swz_l w8 16 (chunk 0 16 (take (32 - at) (drop at mask))) 0 (zip2 bit_and v (replicate 16 15)) ≡ map (λ b. slice_index mask (at + b % 16)) v
by_low mask at v room fits =
    let entry : (k : ℕ) → k < 16 → get_or (chunk 0 16 (take (32 - at) (drop at mask))) k 0 ≡ get_or mask (at + k) 0 = λ k h.
    get_or-chunk 0 16 (take (32 - at) (drop at mask)) k 0 h ∙ ap (λ n. get_or (take (32 - at) (drop at mask)) n 0) (omega arith)
    ∙ get_or-take (32 - at) (drop at mask) k 0 (omega (arith, room, h)) ∙ get_or-drop at mask k 0 in
    looked_up (chunk 0 16 (take (32 - at) (drop at mask))) (λ b. slice_index mask (at + b % 16)) (λ x. bit_and x 15) v _ fits (zip2_splat bit_and v 16 15 fits.0)
    (λ x h. omega (arith, and_le_r x 15))
    (λ x h. entry (bit_and x 15) (omega (arith, and_le_r x 15)) ∙ ap (λ k. get_or mask (at + k) 0) (and_mask x 4))

-- by upper halves
pub by_high : (bits v : List ℕ) → IsBlock v → swz_l w8 16 bits 0 (zip2 down v (replicate 16 4)) ≡ map (λ b. slice_index bits (b / 16)) v
by_high bits v fits =
    looked_up bits (λ b. slice_index bits (b / 16)) (λ x. x / 16) v _ fits (zip2_splat down v 16 4 fits.0) (λ x h. omega (arith, h)) (λ x h. refl)

-- the numbers of the two constants
near_byte : (k : ℕ) → k < 8 → (slice_index NEAR k ≡ 2 ^ k) × (slice_index FAR k ≡ 0)
near_byte zero l = (refl, refl)
near_byte (suc zero) l = (refl, refl)
near_byte (suc (suc zero)) l = (refl, refl)
near_byte (suc (suc (suc zero))) l = (refl, refl)
near_byte (suc (suc (suc (suc zero)))) l = (refl, refl)
near_byte (suc (suc (suc (suc (suc zero))))) l = (refl, refl)
near_byte (suc (suc (suc (suc (suc (suc zero)))))) l = (refl, refl)
near_byte (suc (suc (suc (suc (suc (suc (suc zero))))))) l = (refl, refl)
near_byte (suc (suc (suc (suc (suc (suc (suc (suc k)))))))) l = absurd (omega (arith, l))

far_byte : (k : ℕ) → k < 8 → (slice_index NEAR (k + 8) ≡ 0) × (slice_index FAR (k + 8) ≡ 2 ^ k)
far_byte zero l = (refl, refl)
far_byte (suc zero) l = (refl, refl)
far_byte (suc (suc zero)) l = (refl, refl)
far_byte (suc (suc (suc zero))) l = (refl, refl)
far_byte (suc (suc (suc (suc zero)))) l = (refl, refl)
far_byte (suc (suc (suc (suc (suc zero))))) l = (refl, refl)
far_byte (suc (suc (suc (suc (suc (suc zero)))))) l = (refl, refl)
far_byte (suc (suc (suc (suc (suc (suc (suc zero))))))) l = (refl, refl)
far_byte (suc (suc (suc (suc (suc (suc (suc (suc k)))))))) l = absurd (omega (arith, l))

-- the value that is looked up for a byte
abbrev pub found : List ℕ → ℕ → ℕ
found mask b = bit_or (bit_and (slice_index mask (0 + b % 16)) (slice_index NEAR (b / 16))) (bit_and (slice_index mask (16 + b % 16)) (slice_index FAR (b / 16)))

-- a digit at an index is 0 or not
bare : (bit n : ℕ) → bit < 2 → 0 < n → eqb (bit * n) 0 ≡ not (bit == 1)
bare zero n lt pos = eq-eqb (0 * n) 0 (omega arith)
bare (suc zero) n lt pos = ne_eqb (1 * n) 0 (λ e. omega (arith, e, pos))
bare (suc (suc bit)) n lt pos = absurd (omega (arith, lt))

module _ (p : ℕ → Bool) (mask : List ℕ) (is : IsMask p mask) where
  -- the value that is looked up is 0 if the byte does not pass
  pub found_describes : (b : ℕ) → b < 256 → eqb (found mask b) 0 ≡ not (p b)
  found_describes b lt =
      let k = b / 16 % 8 in
      let e = 16 * (b / 128) + b % 16 in
      let x = slice_index mask e in
      let small : k < 8 = omega arith in
      let one : found mask b ≡ bit_at x k * 2 ^ k = elim (cases_lt (b / 16) 8) [
        | inl near ↦
            let q : b / 16 ≡ k = omega (arith, near) in
            let m : 0 + b % 16 ≡ e = omega (arith, near) in
            let y = slice_index mask (16 + b % 16) in
            let n = near_byte k small in
            (λ i. bit_or (bit_and (slice_index mask (m i)) (slice_index NEAR (q i))) (bit_and y (slice_index FAR (q i))))
            ∙ (λ i. bit_or (bit_and x (n.0 i)) (bit_and y (n.1 i)))
            ∙ ap (bit_or (bit_and x (2 ^ k))) (and_zero_r y) ∙ or_zero_r (bit_and x (2 ^ k)) ∙ and_pow x k
        | inr far ↦
            let q : b / 16 ≡ k + 8 = omega (arith, far, lt) in
            let m : 16 + b % 16 ≡ e = omega (arith, far, lt) in
            let y = slice_index mask (0 + b % 16) in
            let n = far_byte k small in
            (λ i. bit_or (bit_and y (slice_index NEAR (q i))) (bit_and (slice_index mask (m i)) (slice_index FAR (q i))))
            ∙ (λ i. bit_or (bit_and y (n.0 i)) (bit_and x (n.1 i)))
            ∙ ap (λ z. bit_or z (bit_and x (2 ^ k))) (and_zero_r y) ∙ or_zero_l (bit_and x (2 ^ k)) ∙ and_pow x k
      ] in
      ap (λ z. eqb z 0) one ∙ bare (bit_at x k) (2 ^ k) (bit_at-lt x k) (pow_pos k) ∙ ap not (is b lt)

  -- of all bytes of a block
  none_found : (v : List ℕ) → Each1 (Fits w8) v → map (λ z. eqb z 0) (map (found mask) v) ≡ map (λ b. not (p b)) v
  none_found [] fits = refl
  none_found (b ∷ v) fits = λ i. found_describes b fits.0.fits i ∷ none_found v fits.1 i

  none_marked : (v : List ℕ) → IsBlock v →
      mask_l (map (top 7) (zip2 (λ a b. cond (eqb a b) 255 0) (map (found mask) v) (replicate 16 0))) % 2 ^ 64 ≡ mask_l (map (λ b. not (p b)) v)
  none_marked v fits =
      bitmask_splat w8 eqb (map (found mask) v) 16 0 (length-map v (found mask) ∙ fits.0) (omega arith) ∙ ap mask_l (none_found v fits.1)

  pub stops_marked : (v a b c d : List ℕ) → IsBlock v →
      a ≡ map (λ x. slice_index mask (0 + x % 16)) v → b ≡ map (λ x. slice_index NEAR (x / 16)) v →
      c ≡ map (λ x. slice_index mask (16 + x % 16)) v → d ≡ map (λ x. slice_index FAR (x / 16)) v →
      mask_l (map (top 7) (zip2 (λ x y. cond (eqb x y) 255 0) (zip2 bit_or (zip2 bit_and a b) (zip2 bit_and c d)) (replicate 16 0))) % 2 ^ 64 ≡ mask_l (map (λ x. not (p x)) v)
  stops_marked v a b c d fits is_a is_b is_c is_d =
      let joined : zip2 bit_or (zip2 bit_and a b) (zip2 bit_and c d) ≡ map (found mask) v =
      (λ i. zip2 bit_or (zip2 bit_and (is_a i) (is_b i)) (zip2 bit_and (is_c i) (is_d i)))
      ∙ (λ i. zip2 bit_or (zip2-map bit_and (λ x. slice_index mask (0 + x % 16)) (λ x. slice_index NEAR (x / 16)) v i)
      (zip2-map bit_and (λ x. slice_index mask (16 + x % 16)) (λ x. slice_index FAR (x / 16)) v i))
      ∙ zip2-map bit_or (λ x. bit_and (slice_index mask (0 + x % 16)) (slice_index NEAR (x / 16)))
      (λ x. bit_and (slice_index mask (16 + x % 16)) (slice_index FAR (x / 16))) v in
      ap (λ l. mask_l (map (top 7) (zip2 (λ x y. cond (eqb x y) 255 0) l (replicate 16 0))) % 2 ^ 64) joined ∙ none_marked v fits
