-- The highest bytes of entries, and the mask of a flag of 64 of them, as the vectors make them.
use Rattle.std.proofs.Common.{◌≡◌, ℕ, ◌+◌, ◌-◌, ◌*◌, ◌/◌, ◌%◌, ◌^◌, ◌<◌, ◌≤◌, ◌⊎◌, eqb, Bool, not, cond, List, ◌++◌, map, length, get_or, slice_index, replicate, sym, refl, ap, ◌∙◌, arith, bit_and, Fits, w8, w32, ◌≢◌, inl, inr}
use Rattle.std.proofs.lemmas.Simd.{Each1-get_or, below_from_Fits, chunk-fits, length-chunk, get_or-chunk, get_or_narrower, bit_mask_l, bitmask_splat, zip2_splat}
use Rattle.std.proofs.lemmas.Bool.{cases_eq, ne_eqb}
use Rattle.std.proofs.lemmas.Nat.Bits.{and_pow, bit_at-lt}
use Rattle.std.proofs.lemmas.List.{length-map}
use Rattle.std.proofs.lemmas.List.FromFn.{length-range_with_len, get_or-map-range_with_len}
use Rattle.std.proofs.Math.ListN.{get_or-map, get_or-append}
use Rattle.std.proofs.Math.Seq.{get_or-append_right}
use Rattle.std.specs.Int.{bit_at}
use Rattle.std.specs.List.{range_with_len}
use lib.Lanes.{chunk, zip2, mask_l, top, number_l, digits_l}
use Rattle.logos_scan.specs.walk.Masks.{HoldTops, MarksFrom}

ways : (a b : ℕ) → (a < b) ⊎ (b ≤ a)
ways a b = grind arith

-- the highest of the four bytes of each entry
pub tops : (trace : List ℕ) (at : ℕ) → ((k : ℕ) → Fits w32 (get_or trace k 0)) → at + 16 ≤ length trace
    → HoldTops trace at 16 (map (λ k. get_or (digits_l 256 64 (number_l 4294967296 (chunk at 16 trace))) (4 * k + 3) 0) (range_with_len 0 16))
tops trace at fits room =
    let entries = chunk at 16 trace in
    let bytes = digits_l 256 64 (number_l 4294967296 entries) in
    let below = below_from_Fits w32 entries (chunk-fits w32 at 16 trace fits) in
    record {
      long = refl;
      each = λ i lt.
          let e : get_or entries i 0 ≡ slice_index trace (at + i) = get_or-chunk at 16 trace i 0 lt in
          let small : get_or entries i 0 < 4294967296 = Each1-get_or (λ x. x < 4294967296) entries i 0 (omega (arith, lt, length-chunk at 16 trace room)) below in
          get_or-map-range_with_len (λ k. get_or bytes (4 * k + 3) 0) 0 16 i i 0 lt (omega arith)
          ∙ get_or_narrower 4294967296 4 256 64 entries i 3 refl below (omega arith) (omega (arith, lt))
          ∙ top_of (get_or entries i 0) small ∙ ap (λ x. x / 16777216) e;
    }
  where
    top_of : (x : ℕ) → x < 4294967296 → x / 256 ^ 3 % 256 ≡ x / 16777216
    top_of x lt = omega (arith, lt)

-- those of entries that follow one another
pub joined : (trace : List ℕ) (at n m : ℕ) (xs ys : List ℕ) → HoldTops trace at n xs → HoldTops trace (at + n) n ys → m ≡ n + n
    → HoldTops trace at m (map (λ k. get_or (xs ++ ys) k 0) (range_with_len 0 m))
joined trace at n m xs ys x y e = record {
  long = length-map (range_with_len 0 m) (λ k. get_or (xs ++ ys) k 0) ∙ length-range_with_len 0 m;
  each = λ i lt.
      get_or-map-range_with_len (λ k. get_or (xs ++ ys) k 0) 0 m i i 0 lt (omega arith)
      ∙ elim (ways i n) [
        | inl l ↦ get_or-append xs ys 0 i (omega (arith, l, x.long)) ∙ x.each i l
        | inr g ↦ get_or-append_right xs ys i 0 (omega (arith, g, x.long))
            ∙ ap (λ k. get_or ys (i - k) 0) x.long
            ∙ y.each (i - n) (omega (arith, g, lt, e))
            ∙ ap (λ k. slice_index trace k / 16777216) (omega (arith, g))
      ];
}

-- whether a byte has the flag
abbrev pub differs : ℕ → ℕ → Bool
differs x y = not (eqb x y)

flag_of : (b x : ℕ) → b < 2 → (b ≡ 0 → x ≡ 0) → (b ≡ 1 → x ≢ 0) → cond (differs x 0) 1 0 ≡ b
flag_of b x lt none some = elim (cases_eq b 0) [
  | inl z ↦ ap (λ k. cond (differs k 0) 1 0) (none z) ∙ sym z
  | inr w ↦ ap (λ t. cond (not t) 1 0) (ne_eqb x 0 (some (omega arith))) ∙ omega arith
]

-- the mask has the flag of each byte
pub marked : (bit : ℕ) (v : List ℕ) → 0 < 2 ^ bit → length v ≡ 64 → (i : ℕ) → i < 64
    → bit_at (mask_l (map (top 7) (zip2 (λ a b. cond (differs a b) 255 0)
    (zip2 bit_and v (replicate 64 (2 ^ bit))) (replicate 64 0))) % 2 ^ 64) i ≡ bit_at (slice_index v i) bit
marked bit v pos long i lt =
    let and = λ (x : ℕ). bit_and x (2 ^ bit) in
    let m = map and v in
    let flags : zip2 bit_and v (replicate 64 (2 ^ bit)) ≡ m = zip2_splat bit_and v 64 (2 ^ bit) long in
    let longer : length m ≡ 64 = length-map v and ∙ long in
    let x = slice_index v i in
    let lane : get_or m i 0 ≡ bit_at x bit * 2 ^ bit = get_or-map and v i 0 ∙ and_pow x bit in
    ap (λ l. bit_at (mask_l (map (top 7) (zip2 (λ a b. cond (differs a b) 255 0) l (replicate 64 0))) % 2 ^ 64) i) flags
    ∙ ap (λ k. bit_at k i) (bitmask_splat w8 differs m 64 0 longer (omega arith))
    ∙ bit_mask_l (map (λ k. differs k 0) m) i
    ∙ ap (λ b. cond b 1 0) (get_or-map (λ k. differs k 0) m i 0)
    ∙ flag_of (bit_at x bit) (get_or m i 0) (bit_at-lt x bit)
    (λ z. lane ∙ ap (λ k. k * 2 ^ bit) z ∙ omega arith)
    (λ o n. absurd (omega (arith, pos, n, lane, ap (λ k. k * 2 ^ bit) o)))

-- the flags of the highest bytes are those of the entries
pub ended_above : (trace : List ℕ) (at : ℕ) (tops : List ℕ) (word : ℕ) → HoldTops trace at 64 tops
    → ((i : ℕ) → i < 64 → bit_at word i ≡ bit_at (slice_index tops i) 7) → MarksFrom 31 trace at word
ended_above trace at tops word h m i lt = m i lt ∙ ap (λ x. bit_at x 7) (h.each i lt) ∙ seven (slice_index trace (at + i))
  where
    seven : (x : ℕ) → x / 16777216 / 128 % 2 ≡ x / 2147483648 % 2
    seven x = omega arith

pub token_above : (trace : List ℕ) (at : ℕ) (tops : List ℕ) (word : ℕ) → HoldTops trace at 64 tops
    → ((i : ℕ) → i < 64 → bit_at word i ≡ bit_at (slice_index tops i) 6) → MarksFrom 30 trace at word
token_above trace at tops word h m i lt = m i lt ∙ ap (λ x. bit_at x 6) (h.each i lt) ∙ six (slice_index trace (at + i))
  where
    six : (x : ℕ) → x / 16777216 / 64 % 2 ≡ x / 1073741824 % 2
    six x = omega arith
