-- The end of a fast loop, by blocks of bytes.
use Rattle.std.proofs.Common.{◌≡◌, ℕ, ◌+◌, ◌-◌, ◌*◌, ◌<◌, ◌≤◌, Bool, true, false, not, ◌==◌, cond, List, [], ◌∷◌, length, map, take, drop, Some, refl, sym, ap, ◌∙◌, arith, length-drop, length-take, drop-drop}
use Rattle.std.proofs.lemmas.Bool.{ne_eqb, eq-eqb}
use Rattle.std.proofs.lemmas.List.{take-append-drop, take_all}
use Rattle.std.proofs.lemmas.List.Folds.{prefix_len-append}
use Rattle.std.proofs.lemmas.List.Folds.{length-prefix_len}
use Rattle.std.proofs.lemmas.List.Sums.{prefix_len-le-length}
use Rattle.std.proofs.lemmas.Simd.{leading_from_mask_l, trailing_mask_l}
use Rattle.std.specs.Int.Count.{count_trailing_zeros}
use Rattle.std.specs.List.{prefix_len}
use lib.Lanes.{mask_l}
use Rattle.logos_code.specs.Bytes.{passes_test}
use Rattle.logos_code.specs.Code.{CodeValue}
use Rattle.logos_code.specs.Runs.{looped}
use Rattle.logos_machine.specs.inside.Looks.{StopsAt}

not_not : (b : Bool) → not (not b) ≡ b
not_not true = refl
not_not false = refl

module _ (p : ℕ → Bool) where
  stops_before : (ys : List ℕ) → 0 < mask_l (map (λ b. not (p b)) ys) → prefix_len p ys < length ys
  stops_before [] h = absurd (omega (arith, h))
  stops_before (y ∷ ys) h = by (p y) (prefix_len p ys) (mask_l (map (λ b. not (p b)) ys)) (stops_before ys) h
    where
      by : (b : Bool) (n m : ℕ) → (0 < m → n < length ys) → 0 < cond (not b) 1 0 + 2 * m → cond b (1 + n) 0 < length (y ∷ ys)
      by true n m rest h = let r = rest (omega (arith, h)) in omega (arith, r)
      by false n m rest h = omega arith

  module _ (xs : List ℕ) (n : ℕ) where
    split : prefix_len p xs ≡ cond (prefix_len p (take n xs) == length (take n xs)) (length (take n xs) + prefix_len p (drop n xs)) (prefix_len p (take n xs))
    split = ap (prefix_len p) (sym (take-append-drop n xs)) ∙ prefix_len-append p (take n xs) (drop n xs)

    -- all bytes of the block pass
    pub block_passes : n ≤ length xs → mask_l (map (λ b. not (p b)) (take n xs)) ≡ 0 → prefix_len p xs ≡ n + prefix_len p (drop n xs)
    block_passes fits none =
        let all : prefix_len (λ b. not (not (p b))) (take n xs) ≡ length (take n xs) = leading_from_mask_l (λ b. not (p b)) (take n xs) none in
        let same : prefix_len p (take n xs) ≡ length (take n xs) = sym (λ i. prefix_len (λ b. not_not (p b) i) (take n xs)) ∙ all in
        let s = split in
        let l = length-take n xs in
        let f = rw (eq-eqb (prefix_len p (take n xs)) (length (take n xs)) same) at s in
        omega (arith, f, l, fits)

    -- one of them does not
    pub block_stops : n ≤ length xs → n ≤ 64 → 0 < mask_l (map (λ b. not (p b)) (take n xs)) →
        (prefix_len p xs ≡ count_trailing_zeros 64 (mask_l (map (λ b. not (p b)) (take n xs)))) × (prefix_len p xs < n)
    block_stops fits small some =
        let l = length-take n xs in
        let first : count_trailing_zeros 64 (mask_l (map (λ b. not (p b)) (take n xs))) ≡ prefix_len (λ b. not (not (p b))) (take n xs) =
        trailing_mask_l (λ b. not (p b)) 64 (take n xs) (omega (arith, l, fits, small)) some in
        let same : prefix_len (λ b. not (not (p b))) (take n xs) ≡ prefix_len p (take n xs) = λ i. prefix_len (λ b. not_not (p b) i) (take n xs) in
        let before : prefix_len p (take n xs) < length (take n xs) = stops_before (take n xs) some in
        let s = split in
        let f = rw (ne_eqb (prefix_len p (take n xs)) (length (take n xs)) (λ e. omega (arith, e, before))) at s in
        (f ∙ sym same ∙ sym first, omega (arith, f, before, l, fits))

-- a block of sixteen bytes, and its bits
module _ (code : CodeValue) (test : ℕ) (bytes : List ℕ) (at : ℕ) (block : List ℕ) (bits : ℕ) (within : at ≤ length bytes)
    (long : 16 ≤ length (take (length bytes - at) (drop at bytes))) (same : block ≡ take 16 (take (length bytes - at) (drop at bytes))) (sum : bits ≡ mask_l (map (λ b. not (passes_test code.bit_tables test b)) block)) where
  abbrev p : ℕ → Bool
  p = passes_test code.bit_tables test

  rest : take (length bytes - at) (drop at bytes) ≡ drop at bytes
  rest = take_all (length bytes - at) (drop at bytes) (omega (arith, length-drop at bytes))

  here : bits ≡ mask_l (map (λ b. not (p b)) (take 16 (drop at bytes)))
  here = sum ∙ ap (λ l. mask_l (map (λ b. not (p b)) l)) (same ∙ ap (take 16) rest)

  enough : 16 ≤ length (drop at bytes)
  enough = rw rest at long

  -- the first bit is that of the first byte that does not pass
  pub stop_found : 0 < bits → at + count_trailing_zeros 64 bits ≡ at + prefix_len p (drop at bytes)
  stop_found some =
      let f = block_stops p (drop at bytes) 16 enough (omega arith) (rw here at some) in
      ap (λ n. at + n) (ap (count_trailing_zeros 64) here ∙ sym f.0)

  -- where no bit is set, the stop is not in the block
  pub stop_after : bits ≡ 0 → (at + prefix_len p (drop at bytes) ≡ at + 16 + prefix_len p (drop (at + 16) bytes)) × (at + 16 ≤ length bytes)
  stop_after none =
      let f = block_passes p (drop at bytes) 16 enough (sym here ∙ none) in
      let d : prefix_len p (drop 16 (drop at bytes)) ≡ prefix_len p (drop (at + 16) bytes) = ap (prefix_len p) (drop-drop 16 at bytes) in
      let e = enough in
      (omega (arith, f, d), omega (arith, e, length-drop at bytes, within))

-- the stop of a fast loop
pub stop_looped : (code : CodeValue) (test : ℕ) (bytes : List ℕ) (from stop : ℕ) → StopsAt code test bytes from stop → stop ≡ from + looped code (Some test) (drop from bytes)
stop_looped code test bytes from stop stops = let n = length-prefix_len (passes_test code.bit_tables test) (drop from bytes) in omega (arith, stops, n)

-- it lies in the input
pub stop_within : (code : CodeValue) (test : ℕ) (bytes : List ℕ) (from stop : ℕ) → StopsAt code test bytes from stop → from ≤ length bytes → (from ≤ stop) × (stop ≤ length bytes)
stop_within code test bytes from stop stops h =
    let l = prefix_len-le-length (passes_test code.bit_tables test) (drop from bytes) in
    (omega (arith, stops), omega (arith, stops, h, l, length-drop from bytes))
