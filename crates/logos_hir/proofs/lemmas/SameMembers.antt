-- Canonical ranges with the same members are equal, and they are those of `ranges_from`.
use Rattle.std.proofs.Common.{◌≡◌, ℕ, zero, suc, ◌+◌, ◌<◌, ◌≤◌, Bool, true, false, cond, ◌&&◌, ◌||◌, ◌==◌, nat_le, List, [], ◌∷◌, Some, None, refl, sym, ap, ap₂, ◌∙◌, arith, ⊎_elim}
use Rattle.std.proofs.lemmas.Bool.{and_parts, and_from, both_ways, cases_lt, eqb-true}
use Rattle.std.proofs.lemmas.Bool.Decides.{nat_tests}
use lib.Utf8.{scalar, scalar_cases}
use Rattle.logos_hir.specs.Sets.{Set, only_chars, members, intersection, in_range, in_ranges, next, is_range, rises_from, AreCanonical, with_number, ranges_from, char_ranges, byte_ranges}
use Rattle.logos_hir.proofs.lemmas.RangeLemmas.{next_above, char_bound, is_range_parts, is_range_from, rises_parts, rises_from_parts, same_chars, only_chars_members}
use Rattle.logos_hir.specs.Build.{sole_member}
use Rattle.std.proofs.Math.Path.{fun_ext}

-- ---- one list for one set

in_range_false_below : (r : ℕ × ℕ) (c : ℕ) → c < r.0 → in_range r c ≡ false
in_range_false_below r c lt = grind (arith, nat_tests)

in_range_false_above : (r : ℕ × ℕ) (c : ℕ) → r.1 < c → in_range r c ≡ false
in_range_false_above r c lt = grind (arith, nat_tests)

in_range_true : (r : ℕ × ℕ) (c : ℕ) → r.0 ≤ c → c ≤ r.1 → in_range r c ≡ true
in_range_true r c a b = grind (arith, nat_tests)

-- nothing lies before the number where the ranges may start
pub below_free : (n : ℕ) (xs : List (ℕ × ℕ)) (c : ℕ) → rises_from n xs ≡ true → c < n → in_ranges xs c ≡ false
below_free n [] c h lt = refl
below_free n (x ∷ xs) c h lt =
    let p = rises_parts n x xs h in
    let r = is_range_parts x p.1 in
    ap₂ ◌||◌ (in_range_false_below x c (omega (arith, p.0))) (below_free (next x.1 + 1) xs c p.2 (omega (arith, p.0, r.2, next_above x.1)))

first_is_member : (n : ℕ) (x : ℕ × ℕ) (xs : List (ℕ × ℕ)) → rises_from n (x ∷ xs) ≡ true → members (x ∷ xs) x.0 ≡ true
first_is_member n x xs h =
    let r = is_range_parts x (rises_parts n x xs h).1 in
    and_from (scalar x.0) (in_range x x.0 || in_ranges xs x.0) r.0 (ap (λ b. b || in_ranges xs x.0) (in_range_true x x.0 (omega arith) r.2))

next_char : (a b : ℕ) → scalar a ≡ true → scalar b ≡ true → a < b → (scalar (next a) ≡ true) × (next a ≤ b)
next_char a b ha hb lt =
    let pa = scalar_cases a ha in
    let pb = scalar_cases b hb in
    (grind (arith, nat_tests), grind (arith, nat_tests))

-- a member in front of all ranges, or after the first one, is no member
not_before : (n : ℕ) (y : ℕ × ℕ) (ys : List (ℕ × ℕ)) (c : ℕ) → rises_from n (y ∷ ys) ≡ true → c < y.0 → members (y ∷ ys) c ≡ false
not_before n y ys c h lt =
    let p = rises_parts n y ys h in
    let again = rises_from_parts y.0 y ys (omega arith) p.1 p.2 in
    ap (λ b. scalar c && b) (below_free y.0 (y ∷ ys) c again lt) ∙ and_false (scalar c)
  where
    and_false : (b : Bool) → (b && false) ≡ false
    and_false true = refl
    and_false false = refl

not_afterward : (n : ℕ) (x : ℕ × ℕ) (xs : List (ℕ × ℕ)) → rises_from n (x ∷ xs) ≡ true → in_ranges (x ∷ xs) (next x.1) ≡ false
not_afterward n x xs h =
    let p = rises_parts n x xs h in
    ap₂ ◌||◌ (in_range_false_above x (next x.1) (next_above x.1)) (below_free (next x.1 + 1) xs (next x.1) p.2 (omega arith))

starts_first : (n : ℕ) (x y : ℕ × ℕ) (xs ys : List (ℕ × ℕ)) → rises_from n (x ∷ xs) ≡ true → rises_from n (y ∷ ys) ≡ true →
    ((c : ℕ) → members (x ∷ xs) c ≡ members (y ∷ ys) c) → y.0 ≤ x.0
starts_first n x y xs ys hx hy same =
    ⊎_elim (λ lt. absurd (both_ways _ (not_before n y ys x.0 hy lt) (sym (same x.0) ∙ first_is_member n x xs hx))) (λ ge. ge) (cases_lt x.0 y.0)

ends_first : (n : ℕ) (x y : ℕ × ℕ) (xs ys : List (ℕ × ℕ)) → rises_from n (x ∷ xs) ≡ true → rises_from n (y ∷ ys) ≡ true →
    ((c : ℕ) → members (x ∷ xs) c ≡ members (y ∷ ys) c) → x.0 ≡ y.0 → y.1 ≤ x.1
ends_first n x y xs ys hx hy same start =
    let rx = is_range_parts x (rises_parts n x xs hx).1 in
    let ry = is_range_parts y (rises_parts n y ys hy).1 in
    ⊎_elim
    (λ lt.
    let m = next_char x.1 y.1 rx.1 ry.1 lt in
    let there : members (y ∷ ys) (next x.1) ≡ true =
    and_from (scalar (next x.1)) (in_range y (next x.1) || in_ranges ys (next x.1)) m.0
    (ap (λ b. b || in_ranges ys (next x.1)) (in_range_true y (next x.1) (omega (arith, start, rx.2, next_above x.1)) m.1)) in
    let gone : members (x ∷ xs) (next x.1) ≡ false = ap (λ b. b && in_ranges (x ∷ xs) (next x.1)) m.0 ∙ not_afterward n x xs hx in
    absurd (both_ways _ gone (same (next x.1) ∙ there)))
    (λ ge. ge) (cases_lt x.1 y.1)

-- after the first range the others have the same members
same_rest : (n : ℕ) (x y : ℕ × ℕ) (xs ys : List (ℕ × ℕ)) → rises_from n (x ∷ xs) ≡ true → rises_from n (y ∷ ys) ≡ true →
    ((c : ℕ) → members (x ∷ xs) c ≡ members (y ∷ ys) c) → x.1 ≡ y.1 → (c : ℕ) → members xs c ≡ members ys c
same_rest n x y xs ys hx hy same ends c =
    let px = rises_parts n x xs hx in
    let py = rises_parts n y ys hy in
    ⊎_elim
    (λ lt. ap (λ b. scalar c && b) (below_free (next x.1 + 1) xs c px.2 lt ∙ sym (below_free (next y.1 + 1) ys c py.2 (rw (← ends) lt))))
    (λ ge.
    let above : x.1 < c = omega (arith, next_above x.1, ge) in
    ap (λ b. scalar c && (b || in_ranges xs c)) (sym (in_range_false_above x c above))
    ∙ same c
    ∙ ap (λ b. scalar c && (b || in_ranges ys c)) (in_range_false_above y c (omega (arith, above, ends))))
    (cases_lt c (next x.1 + 1))

same_from : (n : ℕ) (xs ys : List (ℕ × ℕ)) → rises_from n xs ≡ true → rises_from n ys ≡ true → ((c : ℕ) → members xs c ≡ members ys c) → xs ≡ ys
same_from n [] [] hx hy same = refl
same_from n [] (y ∷ ys) hx hy same = absurd (both_ways _ (none y.0 (scalar y.0)) (same y.0 ∙ first_is_member n y ys hy))
  where
    none : (c : ℕ) (b : Bool) → (b && false) ≡ false
    none c true = refl
    none c false = refl
same_from n (x ∷ xs) [] hx hy same = absurd (both_ways _ (none x.0 (scalar x.0)) (sym (same x.0) ∙ first_is_member n x xs hx))
  where
    none : (c : ℕ) (b : Bool) → (b && false) ≡ false
    none c true = refl
    none c false = refl
same_from n (x ∷ xs) (y ∷ ys) hx hy same =
    let start : x.0 ≡ y.0 = omega (arith, starts_first n x y xs ys hx hy same, starts_first n y x ys xs hy hx (λ c. sym (same c))) in
    let ends : x.1 ≡ y.1 =
    omega (arith, ends_first n x y xs ys hx hy same start, ends_first n y x ys xs hy hx (λ c. sym (same c)) (sym start)) in
    let ry : rises_from (next x.1 + 1) ys ≡ true = rw ends (rises_parts n y ys hy).2 in
    ap₂ ◌∷◌ (ap₂ (λ a b. (a, b)) start ends)
    (same_from (next x.1 + 1) xs ys (rises_parts n x xs hx).2 ry (same_rest n x y xs ys hx hy same ends))

-- canonical ranges with the same members are the same
pub same_ranges : (xs ys : List (ℕ × ℕ)) → AreCanonical xs → AreCanonical ys → members xs ≡ members ys → xs ≡ ys
same_ranges xs ys hx hy same = same_from 0 xs ys hx hy (λ c. ap (λ (s : Set). s c) same)

-- ---- the ranges of a set

-- a number in front of ranges after it
with_number_rises : (n c : ℕ) (xs : List (ℕ × ℕ)) → n ≤ c → scalar c ≡ true → rises_from (c + 1) xs ≡ true → rises_from n (with_number c xs) ≡ true
with_number_rises n c [] le hc h = rises_from_parts n (c, c) [] le (is_range_from (c, c) hc hc (omega arith)) refl
with_number_rises n c (x ∷ xs) le hc h =
    let p = rises_parts (c + 1) x xs h in
    let r = is_range_parts x p.1 in
    let alone = is_range_from (c, c) hc hc (omega arith) in
    at (next c == x.0) refl p r alone
  where
    at : (b : Bool) → (next c == x.0) ≡ b → (c + 1 ≤ x.0) × (is_range x ≡ true) × (rises_from (next x.1 + 1) xs ≡ true) →
        (scalar x.0 ≡ true) × (scalar x.1 ≡ true) × (x.0 ≤ x.1) → is_range (c, c) ≡ true →
        rises_from n (cond b ((c, x.1) ∷ xs) ((c, c) ∷ x ∷ xs)) ≡ true
    at true e p r alone = rises_from_parts n (c, x.1) xs le (is_range_from (c, x.1) hc r.1 (omega (arith, p.0, r.2))) p.2
    at false e p r alone = rises_from_parts n (c, c) (x ∷ xs) le alone (rises_from_parts (next c + 1) x xs (apart c x.0 hc r.0 p.0 e) p.1 p.2)
      where
        apart : (a b : ℕ) → scalar a ≡ true → scalar b ≡ true → a + 1 ≤ b → (next a == b) ≡ false → next a + 1 ≤ b
        apart a b ha hb lt ne = let pa = scalar_cases a ha in let pb = scalar_cases b hb in grind (arith, nat_tests)

with_number_has : (c d : ℕ) (xs : List (ℕ × ℕ)) → scalar c ≡ true → scalar d ≡ true → rises_from (c + 1) xs ≡ true →
    in_ranges (with_number c xs) d ≡ ((d == c) || in_ranges xs d)
with_number_has c d [] hc hd h = ap (λ b. b || false) (alone c d)
  where
    alone : (c d : ℕ) → in_range (c, c) d ≡ (d == c)
    alone c d = grind (arith, nat_tests)
with_number_has c d (x ∷ xs) hc hd h =
    let p = rises_parts (c + 1) x xs h in
    let r = is_range_parts x p.1 in
    at (next c == x.0) refl p.0 r
  where
    alone : (c d : ℕ) → in_range (c, c) d ≡ (d == c)
    alone c d = grind (arith, nat_tests)

    assoc : (a b c : Bool) → (a || (b || c)) ≡ ((a || b) || c)
    assoc true b c = refl
    assoc false b c = refl

    longer : (c d : ℕ) (x : ℕ × ℕ) → scalar c ≡ true → scalar d ≡ true → c + 1 ≤ x.0 → x.0 ≤ x.1 → next c ≡ x.0 → in_range (c, x.1) d ≡ ((d == c) || in_range x d)
    longer c d x hc hd lt le e = let pc = scalar_cases c hc in let pd = scalar_cases d hd in grind (arith, nat_tests)

    at : (b : Bool) → (next c == x.0) ≡ b → c + 1 ≤ x.0 → (scalar x.0 ≡ true) × (scalar x.1 ≡ true) × (x.0 ≤ x.1) →
        in_ranges (cond b ((c, x.1) ∷ xs) ((c, c) ∷ x ∷ xs)) d ≡ ((d == c) || (in_range x d || in_ranges xs d))
    at true e lt r = ap (λ b. b || in_ranges xs d) (longer c d x hc hd lt r.2 (eqb-true _ _ e)) ∙ sym (assoc (d == c) (in_range x d) (in_ranges xs d))
    at false e lt r = ap (λ b. b || (in_range x d || in_ranges xs d)) (alone c d)

-- the ranges that `ranges_from` returns are canonical
pub ranges_from_rises : (c n : ℕ) (set : Set) → ((d : ℕ) → set d ≡ true → scalar d ≡ true) → rises_from c (ranges_from c n set) ≡ true
unfolding ranges_from
ranges_from_rises c zero set chars = refl
ranges_from_rises c (suc n) set chars = at (set c) refl (ranges_from_rises (c + 1) n set chars)
  where
    lower : (c : ℕ) (xs : List (ℕ × ℕ)) → rises_from (c + 1) xs ≡ true → rises_from c xs ≡ true
    lower c [] h = refl
    lower c (x ∷ xs) h = let p = rises_parts (c + 1) x xs h in rises_from_parts c x xs (omega (arith, p.0)) p.1 p.2

    at : (b : Bool) → set c ≡ b → rises_from (c + 1) (ranges_from (c + 1) n set) ≡ true →
        rises_from c (cond b (with_number c (ranges_from (c + 1) n set)) (ranges_from (c + 1) n set)) ≡ true
    at true e h = with_number_rises c c (ranges_from (c + 1) n set) (omega arith) (chars c e) h
    at false e h = lower c (ranges_from (c + 1) n set) h

-- and has the members among the n numbers
pub ranges_from_has : (c n : ℕ) (set : Set) (d : ℕ) → ((d : ℕ) → set d ≡ true → scalar d ≡ true) → scalar d ≡ true →
    in_ranges (ranges_from c n set) d ≡ ((nat_le c d && nat_le (d + 1) (c + n)) && set d)
unfolding ranges_from
ranges_from_has c zero set d chars hd = sym (outside c d (set d))
  where
    outside : (c d : ℕ) (b : Bool) → ((nat_le c d && nat_le (d + 1) (c + zero)) && b) ≡ false
    outside c d b = grind (arith, nat_tests)
ranges_from_has c (suc n) set d chars hd =
    at (set c) refl (ranges_from_has (c + 1) n set d chars hd) (ranges_from_rises (c + 1) n set chars)
  where
    one_more : (c n d : ℕ) (b : Bool) → (d ≡ c → b ≡ true) → ((d == c) || ((nat_le (c + 1) d && nat_le (d + 1) (c + 1 + n)) && b)) ≡ ((nat_le c d && nat_le (d + 1) (c + suc n)) && b)
    one_more c n d true h = grind (arith, nat_tests)
    one_more c n d false h = grind (arith, nat_tests, h)

    no_more : (c n d : ℕ) (b : Bool) → (d ≡ c → b ≡ false) → ((nat_le (c + 1) d && nat_le (d + 1) (c + 1 + n)) && b) ≡ ((nat_le c d && nat_le (d + 1) (c + suc n)) && b)
    no_more c n d true h = grind (arith, nat_tests, h)
    no_more c n d false h = grind (arith, nat_tests)

    at : (b : Bool) → set c ≡ b → in_ranges (ranges_from (c + 1) n set) d ≡ ((nat_le (c + 1) d && nat_le (d + 1) (c + 1 + n)) && set d) → rises_from (c + 1) (ranges_from (c + 1) n set) ≡ true →
        in_ranges (cond b (with_number c (ranges_from (c + 1) n set)) (ranges_from (c + 1) n set)) d ≡ ((nat_le c d && nat_le (d + 1) (c + suc n)) && set d)
    at true e h rises =
        with_number_has c d (ranges_from (c + 1) n set) (chars c e) hd rises
        ∙ ap (λ b. (d == c) || b) h
        ∙ one_more c n d (set d) (λ same. ap set same ∙ e)
    at false e h rises = h ∙ no_more c n d (set d) (λ same. ap set same ∙ e)

are_chars : (set : Set) (d : ℕ) → only_chars set d ≡ true → scalar d ≡ true
are_chars set d h = (and_parts (scalar d) (set d) h).0

-- the ranges of a set are canonical, and have its characters as their members
pub char_ranges_canonical : (set : Set) → AreCanonical (char_ranges set)
unfolding char_ranges
char_ranges_canonical set = ranges_from_rises 0 0x11_0000 (only_chars set) (are_chars set)

pub char_ranges_members : (set : Set) → members (char_ranges set) ≡ only_chars set
unfolding char_ranges
char_ranges_members set =
    same_chars (in_ranges (ranges_from 0 0x11_0000 (only_chars set))) set
    (λ d hd.
    ranges_from_has 0 0x11_0000 (only_chars set) d (are_chars set) hd
    ∙ ap (λ b. b && (scalar d && set d)) (all_within d hd)
    ∙ ap (λ b. b && set d) hd)
  where
    all_within : (d : ℕ) → scalar d ≡ true → (nat_le 0 d && nat_le (d + 1) (0 + 0x11_0000)) ≡ true
    all_within d hd = let p = char_bound d hd in grind (arith, nat_tests)

-- likewise of bytes
pub byte_ranges_canonical : (set : Set) → AreCanonical (byte_ranges set)
unfolding byte_ranges
byte_ranges_canonical set = ranges_from_rises 0 256 (only_chars set) (are_chars set)

pub byte_ranges_members : (set : Set) → members (byte_ranges set) ≡ only_chars (intersection set (in_range (0, 255)))
unfolding byte_ranges
byte_ranges_members set =
    same_chars (in_ranges (ranges_from 0 256 (only_chars set))) (intersection set (in_range (0, 255)))
    (λ d hd.
    ranges_from_has 0 256 (only_chars set) d (are_chars set) hd
    ∙ ap (λ b. (nat_le 0 d && nat_le (d + 1) (0 + 256)) && (b && set d)) hd
    ∙ within d (set d))
  where
    within : (d : ℕ) (b : Bool) → ((nat_le 0 d && nat_le (d + 1) (0 + 256)) && b) ≡ (b && in_range (0, 255) d)
    within d true = grind (arith, nat_tests)
    within d false = grind (arith, nat_tests)

-- so canonical ranges are those of their members
pub char_ranges_same : (xs : List (ℕ × ℕ)) → AreCanonical xs → char_ranges (members xs) ≡ xs
char_ranges_same xs h =
    same_ranges (char_ranges (members xs)) xs (char_ranges_canonical (members xs)) h (char_ranges_members (members xs) ∙ only_chars_members xs)

pub byte_ranges_same : (ys xs : List (ℕ × ℕ)) → AreCanonical xs → members xs ≡ intersection (members ys) (in_range (0, 255)) → byte_ranges (members ys) ≡ xs
byte_ranges_same ys xs h e =
    same_ranges (byte_ranges (members ys)) xs (byte_ranges_canonical (members ys)) h
    (byte_ranges_members (members ys)
    ∙ same_chars (intersection (members ys) (in_range (0, 255))) (intersection (in_ranges ys) (in_range (0, 255))) (λ d hd. ap (λ b. (b && in_ranges ys d) && in_range (0, 255) d) hd)
    ∙ fun_ext (λ d. assoc (scalar d) (in_ranges ys d) (in_range (0, 255) d))
    ∙ sym e)
  where
    assoc : (a b c : Bool) → (a && (b && c)) ≡ ((a && b) && c)
    assoc true b c = refl
    assoc false b c = refl

-- the only member is one
pub sole_member_is_member : (xs : List (ℕ × ℕ)) (c : ℕ) → AreCanonical xs → sole_member xs ≡ Some c → members xs c ≡ true
sole_member_is_member [] c h e = cc
sole_member_is_member (r ∷ []) c h e = at (r.0 == r.1) refl e
  where
    at : (b : Bool) → (r.0 == r.1) ≡ b → cond b (Some r.0) None ≡ Some c → members (r ∷ []) c ≡ true
    at true same e = let start : r.0 ≡ c = cc in rw (← start) (first_is_member 0 r [] h)
    at false same e = cc
sole_member_is_member (r ∷ s ∷ rest) c h e = cc
