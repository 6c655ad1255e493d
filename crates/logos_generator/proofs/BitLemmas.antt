-- Bits of the tables.
use Rattle.std.proofs.Common.{◌≡◌, ℕ, zero, suc, ◌+◌, ◌*◌, ◌/◌, ◌%◌, ◌^◌, ◌<◌, ◌≤◌, Bool, true, false, ◌==◌, if◌then◌else◌, List, [], length, slice_index, get_or, refl, ap, ◌∙◌, arith, ⊎_elim, ◌⊎◌}
use Rattle.std.specs.Int.{bit_at}
use Rattle.std.proofs.lemmas.Nat.Bits.{bit_at_lowest, bit_at-suc}
use Rattle.std.proofs.lemmas.Nat.{div-mul-add, mod-mul-add}
use Rattle.std.proofs.Math.Nat.{two-pow-succ, mod-add-div}
use Rattle.std.proofs.lemmas.Option.{slice_get-get_or, slice_get_past}
use Rattle.logos_code.specs.Bytes.{passes_test}
use Rattle.std.specs.Int.{div_ceil}
use Rattle.std.proofs.lemmas.List.FromFn.{get_or-map-range_with_len, length-map-range_with_len}
use Rattle.logos_generator.specs.Nodes.{tests_byte}
use Rattle.logos_generator.specs.Numbering.{bits_from, bit_table, bit_tables_of}

below_two : (t : Bool) → (if t then 1 else 0) < 2
below_two true = omega arith
below_two false = omega arith

pub bits_fit : (v i : ℕ) (t : Bool) → v < 2 ^ i → v * 2 + (if t then 1 else 0) < 2 ^ (i + 1)
bits_fit v i t h =
    let k : i + 1 ≡ suc i = omega arith in
    let p : 2 ^ suc i ≡ 2 ^ i + 2 ^ i = two-pow-succ i in
    let b = below_two t in
    rw (k, p) (omega arith)

pub bit_new : (v : ℕ) (t : Bool) → bit_at (v * 2 + (if t then 1 else 0)) 0 ≡ (if t then 1 else 0)
bit_new v t = bit_at_lowest _ ∙ mod-mul-add v 2 _ (below_two t)

pub bit_old : (v m : ℕ) (t : Bool) → bit_at (v * 2 + (if t then 1 else 0)) (suc m) ≡ bit_at v m
bit_old v m t = bit_at-suc _ m ∙ ap (λ n. bit_at n m) (div-mul-add v 2 _ (below_two t))

-- the bits of a number that is made of tests
bits_at : (tests : List (List Bool)) (b k n i : ℕ) → i < n → bit_at (bits_from tests b k n) i ≡ (if tests_byte tests (k + i) b then 1 else 0)
bits_at tests b k zero i h = absurd (omega (arith, h))
bits_at tests b k (suc n) zero h = let z : k + 0 ≡ k = omega arith in rw z (bit_new (bits_from tests b (k + 1) n) (tests_byte tests k b))
bits_at tests b k (suc n) (suc i) h =
    let e : k + 1 + i ≡ k + suc i = omega arith in
    bit_old (bits_from tests b (k + 1) n) i (tests_byte tests k b) ∙ rw e at (bits_at tests b (k + 1) n i (omega (arith, h)))

bit_is : (n : ℕ) (t : Bool) → n ≡ (if t then 1 else 0) → (n == 1) ≡ t
bit_is n true e = rw e refl
bit_is n false e = rw e refl

either : (a b : ℕ) → (a < b) ⊎ (b ≤ a)
either a b = grind arith

-- whole tables, by their entries
realised : (tables : List (List ℕ)) (tests : List (List Bool)) → length tests ≤ 8 * length tables →
    ((j b i : ℕ) → j < length tables → b < 256 → i < 8 → bit_at (slice_index (get_or tables j []) b) i ≡ (if tests_byte tests (8 * j + i) b then 1 else 0)) →
    (k b : ℕ) → b < 256 → passes_test tables k b ≡ tests_byte tests k b
realised tables tests long bits k b h = ⊎_elim inside outside (either (k / 8) (length tables))
  where
    whole : k % 8 + 8 * (k / 8) ≡ k
    whole = mod-add-div k 8

    small : k % 8 < 8
    small = omega arith

    inside : k / 8 < length tables → passes_test tables k b ≡ tests_byte tests k b
    inside l =
        let e : 8 * (k / 8) + k % 8 ≡ k = omega arith in
        rw (slice_get-get_or tables (k / 8) [] l)
        (bit_is _ _ (bits (k / 8) b (k % 8) l h small) ∙ ap (λ n. tests_byte tests n b) e)

    outside : length tables ≤ k / 8 → passes_test tables k b ≡ tests_byte tests k b
    outside l = rw (slice_get_past tables (k / 8) l, slice_get_past tests k (omega arith)) refl

-- as many tables as the tests need
pub tables_long : (tests : List (List Bool)) → length tests ≤ 8 * length (bit_tables_of tests)
tables_long tests =
    let n = length-map-range_with_len (bit_table tests) 0 (div_ceil (length tests) 8) in
    rw n (omega arith)

-- the tables hold the tests
pub tables_hold : (tests : List (List Bool)) (k b : ℕ) → b < 256 → passes_test (bit_tables_of tests) k b ≡ tests_byte tests k b
tables_hold tests = realised (bit_tables_of tests) tests (tables_long tests) (λ j b i l h k.
    let table : get_or (bit_tables_of tests) j [] ≡ bit_table tests j =
    get_or-map-range_with_len (bit_table tests) 0 (div_ceil (length tests) 8) j j [] (omega (arith, l, length-map-range_with_len (bit_table tests) 0 (div_ceil (length tests) 8))) (omega arith) in
    let entry : slice_index (bit_table tests j) b ≡ bits_from tests b (8 * j) 8 = get_or-map-range_with_len (λ b. bits_from tests b (8 * j) 8) 0 256 b b 0 h (omega arith) in
    rw (table, entry) (bits_at tests b (8 * j) 8 i k))
