-- Ranges of characters: appending one, and the characters between two.
use Rattle.std.proofs.Common.{◌≡◌, ℕ, zero, suc, ◌+◌, ◌<◌, ◌≤◌, max, min, Bool, true, false, cond, not, ◌&&◌, ◌||◌, ◌==◌, ◌⊎◌, nat_le, nat_lt, List, [], ◌∷◌, ◌++◌, length, get_or, drop, refl, sym, ap, ap₂, ◌∙◌, arith, inl, inr, ⊎_elim}
use Rattle.std.proofs.lemmas.Bool.{and_from, and_parts, both_ways, cases_lt, leb-true, lt-ltb, le-leb, or_cases}
use Rattle.std.proofs.lemmas.Bool.Decides.{nat_tests}
use Rattle.std.proofs.lemmas.List.{map_push, get_or-drop, get_or_default, length-drop, at_drop_more}
use Rattle.std.proofs.lemmas.List.Sums.{sum_by-cons}
use Rattle.std.proofs.lemmas.List.Sorted.{All-permutation, sum_by-IsPermutation}
use Rattle.std.proofs.Math.Path.{fun_ext}
use Rattle.std.specs.List.{list_all, All, sum_by}
use Rattle.std.specs.List.Sorted.{IsNonDecreasingBy, IsPermutation}
use lib.Utf8.{scalar, scalar_cases}
use Rattle.logos_hir.specs.declared.hir.Range.{Range}
use Rattle.logos_hir.specs.Hir.{pairs}
use Rattle.logos_hir.specs.Text.{InRanges}
use Rattle.logos_hir.specs.Sets.{Set, only_chars, members, union, intersection, difference, symmetric_difference, complement, in_range, in_ranges, next, is_range, rises_from, AreCanonical}
use Rattle.logos_hir.specs.inside.SetSteps.{IsLimit, AreRanges, free_from, in_gap}

pub or_assoc : (a b c : Bool) → ((a || b) || c) ≡ (a || (b || c))
or_assoc true b c = refl
or_assoc false b c = refl

pub or_false : (a : Bool) → (a || false) ≡ a
or_false true = refl
or_false false = refl

-- ---- characters

-- a number after a character is the next character or lies after it
pub next_le : (a c : ℕ) → scalar a ≡ true → scalar c ≡ true → nat_le (next a) c ≡ nat_lt a c
next_le a c ha hc =
    let pa = scalar_cases a ha in
    let pc = scalar_cases c hc in
    grind (arith, nat_tests)

pub next_above : (a : ℕ) → a < next a
next_above a = grind (arith, nat_tests)

pub next_limit : (a : ℕ) → scalar a ≡ true → IsLimit (next a)
next_limit a h = let p = scalar_cases a h in grind (arith, nat_tests)

pub char_bound : (c : ℕ) → scalar c ≡ true → c ≤ 0x10_FFFF
char_bound c h = let p = scalar_cases c h in omega arith

-- ---- lists of ranges

pub is_range_parts : (r : ℕ × ℕ) → is_range r ≡ true → (scalar r.0 ≡ true) × (scalar r.1 ≡ true) × (r.0 ≤ r.1)
is_range_parts r h =
    let p = and_parts (scalar r.0 && scalar r.1) (nat_le r.0 r.1) h in
    let q = and_parts (scalar r.0) (scalar r.1) p.0 in
    (q.0, q.1, grind (arith, nat_tests, p.1))

pub is_range_from : (r : ℕ × ℕ) → scalar r.0 ≡ true → scalar r.1 ≡ true → r.0 ≤ r.1 → is_range r ≡ true
is_range_from r a b le = and_from _ _ (and_from _ _ a b) (grind (arith, nat_tests))

pub rises_parts : (n : ℕ) (r : ℕ × ℕ) (rest : List (ℕ × ℕ)) → rises_from n (r ∷ rest) ≡ true → (n ≤ r.0) × (is_range r ≡ true) × (rises_from (next r.1 + 1) rest ≡ true)
rises_parts n r rest h =
    let p = and_parts (nat_le n r.0 && is_range r) (rises_from (next r.1 + 1) rest) h in
    let q = and_parts (nat_le n r.0) (is_range r) p.0 in
    (grind (arith, nat_tests, q.0), q.1, p.1)

pub rises_from_parts : (n : ℕ) (r : ℕ × ℕ) (rest : List (ℕ × ℕ)) → n ≤ r.0 → is_range r ≡ true → rises_from (next r.1 + 1) rest ≡ true → rises_from n (r ∷ rest) ≡ true
rises_from_parts n r rest a b c = and_from _ _ (and_from _ _ (grind (arith, nat_tests)) b) c

pub rises_from-push : (n : ℕ) (xs : List (ℕ × ℕ)) (r : ℕ × ℕ) → rises_from n xs ≡ true → free_from n xs ≤ r.0 → is_range r ≡ true → rises_from n (xs ++ r ∷ []) ≡ true
rises_from-push n [] r h free ok = rises_from_parts n r [] free ok refl
rises_from-push n (x ∷ xs) r h free ok =
    let p = rises_parts n x xs h in
    rises_from_parts n x (xs ++ r ∷ []) p.0 p.1 (rises_from-push (next x.1 + 1) xs r p.2 free ok)

pub free_from-push : (n : ℕ) (xs : List (ℕ × ℕ)) (r : ℕ × ℕ) → free_from n (xs ++ r ∷ []) ≡ next r.1 + 1
free_from-push n [] r = refl
free_from-push n (x ∷ xs) r = free_from-push (next x.1 + 1) xs r

pub in_ranges-append : (xs ys : List (ℕ × ℕ)) (c : ℕ) → in_ranges (xs ++ ys) c ≡ (in_ranges xs c || in_ranges ys c)
in_ranges-append [] ys c = refl
in_ranges-append (x ∷ xs) ys c = ap (λ b. in_range x c || b) (in_ranges-append xs ys c) ∙ sym (or_assoc (in_range x c) (in_ranges xs c) (in_ranges ys c))

pub in_ranges-push : (xs : List (ℕ × ℕ)) (r : ℕ × ℕ) (c : ℕ) → in_ranges (xs ++ r ∷ []) c ≡ (in_ranges xs c || in_range r c)
in_ranges-push xs r c = in_ranges-append xs (r ∷ []) c ∙ ap (λ b. in_ranges xs c || b) (or_false (in_range r c))

-- ---- gaps

-- the end of a gap is the character before the limit, or the last character
pub gap_range : (first end last to c : ℕ) → next to ≡ end → scalar to ≡ true → scalar c ≡ true →
    in_range (first, min to last) c ≡ in_gap first end last c
gap_range first end last to c e ht hc =
    let pt = scalar_cases to ht in
    let pc = scalar_cases c hc in
    grind (arith, nat_tests)

pub no_gap : (first end last c : ℕ) → end ≤ first → in_gap first end last c ≡ false
no_gap first end last c h = grind (arith, nat_tests)

-- a range after a gap: the gap and the rest leave out the same numbers as the range and the rest
pub gap_step : (out rest : Bool) (first last c : ℕ) (r : ℕ × ℕ) → is_range r ≡ true → scalar c ≡ true → (rest ≡ true → r.0 ≤ c) →
    ((out || in_gap first r.0 last c) || (nat_le (max first (next r.1)) c && (nat_le c last && not rest)))
    ≡ (out || (nat_le first c && (nat_le c last && not (in_range r c || rest))))
gap_step out rest first last c r ok hc later =
    let p = is_range_parts r ok in
    gap_cases out rest first last c r (next r.1) p.2 (next_le r.1 c p.1 hc) later
  where
    both : (first n c : ℕ) → nat_le (max first n) c ≡ (nat_le first c && nat_le n c)
    both first n c = grind (arith, nat_tests)

    gap_cases : (out rest : Bool) (first last c : ℕ) (r : ℕ × ℕ) (n : ℕ) → r.0 ≤ r.1 → nat_le n c ≡ nat_lt r.1 c → (rest ≡ true → r.0 ≤ c) →
        ((out || in_gap first r.0 last c) || (nat_le (max first n) c && (nat_le c last && not rest)))
        ≡ (out || (nat_le first c && (nat_le c last && not (in_range r c || rest))))
    gap_cases true rest first last c r n le e later = refl
    gap_cases false true first last c r n le e later = rw (both first n c, e) (grind (arith, nat_tests, later refl))
    gap_cases false false first last c r n le e later = rw (both first n c, e) (grind (arith, nat_tests))

min_char : (a b : ℕ) → scalar a ≡ true → scalar b ≡ true → scalar (min a b) ≡ true
min_char a b ha hb = go (cases_lt a b)
  where
    go : (a < b) ⊎ (b ≤ a) → scalar (min a b) ≡ true
    go (inl lt) = let e : min a b ≡ a = omega arith in rw e ha
    go (inr le) = let e : min a b ≡ b = omega arith in rw e hb

next_min : (a b : ℕ) → scalar a ≡ true → scalar b ≡ true → next (min a b) ≤ next a
next_min a b ha hb = go (cases_lt b a)
  where
    go : (b < a) ⊎ (a ≤ b) → next (min a b) ≤ next a
    go (inl lt) =
        let e : min a b ≡ b = omega arith in
        let le : nat_le (next b) a ≡ true = next_le b a hb ha ∙ lt-ltb b a lt in
        rw e (omega (arith, leb-true _ _ le, next_above a))
    go (inr le) = let e : min a b ≡ a = omega arith in rw e (omega arith)

limit_char : (c : ℕ) → IsLimit c → c ≤ 0x10_FFFF → scalar c ≡ true
limit_char c h le = grind (arith, nat_tests)

-- a gap that is pushed
pub gap_pushed : (old new : List (ℕ × ℕ)) (first end last to : ℕ) → new ≡ old ++ (first, min to last) ∷ [] →
    AreCanonical old → free_from 0 old ≤ first → IsLimit first → scalar to ≡ true → scalar last ≡ true → next to ≡ end → first ≤ min to last →
    AreCanonical new × ((n : ℕ) → first ≤ n → end < n → free_from 0 new ≤ n)
    × ((c : ℕ) → scalar c ≡ true → in_ranges new c ≡ (in_ranges old c || in_gap first end last c))
gap_pushed old new first end last to e canonical free limit ht hl is_end le =
    let ends = min_char to last ht hl in
    let starts = limit_char first limit (omega (arith, char_bound to ht)) in (
      ap (rises_from 0) e ∙ rises_from-push 0 old (first, min to last) canonical free (is_range_from (first, min to last) starts ends le),
      λ n a b. omega (arith, ap (free_from 0) e ∙ free_from-push 0 old (first, min to last), next_min to last ht hl),
      λ c hc. ap (λ xs. in_ranges xs c) e ∙ in_ranges-push old (first, min to last) c ∙ ap (λ b. in_ranges old c || b) (gap_range first end last to c is_end ht hc),
    )

pub pairs-push : (xs : List Range) (r : Range) → pairs (xs ++ r ∷ []) ≡ pairs xs ++ (r.first, r.last) ∷ []
pairs-push xs r = map_push (λ r. (r.first, r.last)) xs r

-- ---- lists of ranges, by index

AreRanges-parts : (x : Range) (xs : List Range) → AreRanges (pairs (x ∷ xs)) → (is_range (x.first, x.last) ≡ true) × AreRanges (pairs xs)
AreRanges-parts x xs h = and_parts (is_range (x.first, x.last)) (list_all is_range (pairs xs)) h

pub is_range-at : (xs : List Range) (i : ℕ) (d : Range) → AreRanges (pairs xs) → i < length xs → is_range ((get_or xs i d).first, (get_or xs i d).last) ≡ true
is_range-at [] i d h lt = absurd (omega arith)
is_range-at (x ∷ xs) zero d h lt = (AreRanges-parts x xs h).0
is_range-at (x ∷ xs) (suc i) d h lt = is_range-at xs i d (AreRanges-parts x xs h).1 (omega arith)

pub range_at : (xs : List Range) (i : ℕ) (d : Range) → AreRanges (pairs xs) → i < length xs →
    (scalar (get_or xs i d).first ≡ true) × (scalar (get_or xs i d).last ≡ true) × ((get_or xs i d).first ≤ (get_or xs i d).last)
range_at xs i d h lt = is_range_parts ((get_or xs i d).first, (get_or xs i d).last) (is_range-at xs i d h lt)

-- a member is not before all starts
starts_le : (xs : List Range) (n c : ℕ) → ((k : ℕ) (d : Range) → k < length xs → n ≤ (get_or xs k d).first) → in_ranges (pairs xs) c ≡ true → n ≤ c
starts_le [] n c starts h = absurd (both_ways _ refl h)
starts_le (x ∷ xs) n c starts h =
    ⊎_elim
    (λ here. let a = starts 0 x (omega arith) in omega (arith, a, leb-true x.first c (and_parts (nat_le x.first c) (nat_le c x.last) here).0))
    (λ later. starts_le xs n c (λ k d lt. starts (suc k) d (omega arith)) later)
    (or_cases (in_range (x.first, x.last) c) (in_ranges (pairs xs) c) h)

-- the members of the ranges after an index are not before the start of the one at it
pub later_starts : (xs : List Range) (i c : ℕ) (d : Range) → IsNonDecreasingBy (λ (r : Range). r.first) xs → i < length xs →
    in_ranges (pairs (drop (i + 1) xs)) c ≡ true → (get_or xs i d).first ≤ c
later_starts xs i c d sorted lt =
    starts_le (drop (i + 1) xs) (get_or xs i d).first c
    (λ k e h.
    let within : i + 1 + k < length xs = omega (arith, h, length-drop (i + 1) xs) in
    rw (get_or-drop (i + 1) xs k e, get_or_default xs i d e lt) (sorted i (i + 1 + k) e (omega arith) within))

-- one more range
pub gaps_step : (out out2 : List (ℕ × ℕ)) (xs : List Range) (i first m last c : ℕ) (d : Range) → AreRanges (pairs xs) → IsNonDecreasingBy (λ (r : Range). r.first) xs → i < length xs →
    scalar c ≡ true → m ≡ max first (next (get_or xs i d).last) →
    in_ranges out2 c ≡ (in_ranges out c || in_gap first (get_or xs i d).first last c) →
    (in_ranges out c || (nat_le first c && (nat_le c last && not (in_ranges (pairs (drop i xs)) c)))) ≡ (nat_le c last && not (in_ranges (pairs xs) c)) →
    (in_ranges out2 c || (nat_le m c && (nat_le c last && not (in_ranges (pairs (drop (i + 1) xs)) c)))) ≡ (nat_le c last && not (in_ranges (pairs xs) c))
gaps_step out out2 xs i first m last c d ranges sorted lt hc em e h =
    let r = get_or xs i d in
    let rest = in_ranges (pairs (drop (i + 1) xs)) c in
    ap₂ (λ n b. b || (nat_le n c && (nat_le c last && not rest))) em e
    ∙ gap_step (in_ranges out c) rest first last c (r.first, r.last) (is_range-at xs i d ranges lt) hc (later_starts xs i c d sorted lt)
    ∙ ap (λ b. in_ranges out c || (nat_le first c && (nat_le c last && not b))) (sym (at_drop_more (λ ys. in_ranges (pairs ys) c) xs i d lt))
    ∙ h

pub char_limit : (c : ℕ) → scalar c ≡ true → IsLimit c
char_limit c h = ap (λ b. b || (c == 0x11_0000)) h

pub max_limit : (a b : ℕ) → IsLimit a → IsLimit b → IsLimit (max a b)
max_limit a b ha hb = go (cases_lt a b)
  where
    go : (a < b) ⊎ (b ≤ a) → IsLimit (max a b)
    go (inl lt) = let e : max a b ≡ b = omega arith in rw e hb
    go (inr le) = let e : max a b ≡ a = omega arith in rw e ha

-- ---- canonical lists

pub AreRanges-from_canonical : (n : ℕ) (xs : List (ℕ × ℕ)) → rises_from n xs ≡ true → AreRanges xs
AreRanges-from_canonical n [] h = refl
AreRanges-from_canonical n (x ∷ xs) h =
    let p = rises_parts n x xs h in
    and_from (is_range x) (list_all is_range xs) p.1 (AreRanges-from_canonical (next x.1 + 1) xs p.2)

rises_starts : (n : ℕ) (xs : List Range) (k : ℕ) (d : Range) → rises_from n (pairs xs) ≡ true → k < length xs → n ≤ (get_or xs k d).first
rises_starts n [] k d h lt = absurd (omega arith)
rises_starts n (x ∷ xs) zero d h lt = (rises_parts n (x.first, x.last) (pairs xs) h).0
rises_starts n (x ∷ xs) (suc k) d h lt =
    let p = rises_parts n (x.first, x.last) (pairs xs) h in
    let r = is_range_parts (x.first, x.last) p.1 in
    omega (arith, p.0, r.2, next_above x.last, rises_starts (next x.last + 1) xs k d p.2 (omega arith))

pub sorted-from_canonical : (n : ℕ) (xs : List Range) → rises_from n (pairs xs) ≡ true → IsNonDecreasingBy (λ (r : Range). r.first) xs
sorted-from_canonical n [] h i j d le lt = absurd (omega arith)
sorted-from_canonical n (x ∷ xs) h zero zero d le lt = omega arith
sorted-from_canonical n (x ∷ xs) h (suc i) zero d le lt = absurd (omega arith)
sorted-from_canonical n (x ∷ xs) h zero (suc j) d le lt =
    let p = rises_parts n (x.first, x.last) (pairs xs) h in
    let r = is_range_parts (x.first, x.last) p.1 in
    omega (arith, r.2, next_above x.last, rises_starts (next x.last + 1) xs j d p.2 (omega arith))
sorted-from_canonical n (x ∷ xs) h (suc i) (suc j) d le lt =
    sorted-from_canonical (next x.last + 1) xs (rises_parts n (x.first, x.last) (pairs xs) h).2 i j d (omega arith) (omega arith)

-- ---- another order

AreRanges-from_all : (xs : List Range) → All (λ (r : Range). is_range (r.first, r.last) ≡ true) xs → AreRanges (pairs xs)
AreRanges-from_all [] h = refl
AreRanges-from_all (x ∷ xs) h =
    and_from (is_range (x.first, x.last)) (list_all is_range (pairs xs)) (h 0 x (omega arith))
    (AreRanges-from_all xs (λ k d lt. h (suc k) d (omega arith)))

pub AreRanges-permutation : (xs ys : List Range) → IsPermutation xs ys → AreRanges (pairs xs) → AreRanges (pairs ys)
AreRanges-permutation xs ys p h =
    AreRanges-from_all ys (All-permutation (λ (r : Range). is_range (r.first, r.last) ≡ true) xs ys p (λ k d lt. is_range-at xs k d h lt))

-- a number is a member if some range holds it
in_ranges-hits : (xs : List Range) (c : ℕ) → in_ranges (pairs xs) c ≡ nat_lt 0 (sum_by (λ (r : Range). cond (in_range (r.first, r.last) c) 1 0) xs)
in_ranges-hits [] c = refl
in_ranges-hits (x ∷ xs) c =
    ap (λ b. in_range (x.first, x.last) c || b) (in_ranges-hits xs c)
    ∙ counted (in_range (x.first, x.last) c) (sum_by (λ (r : Range). cond (in_range (r.first, r.last) c) 1 0) xs)
    ∙ ap (nat_lt 0) (sym (sum_by-cons (λ (r : Range). cond (in_range (r.first, r.last) c) 1 0) x xs))
  where
    counted : (b : Bool) (n : ℕ) → (b || nat_lt 0 n) ≡ nat_lt 0 (cond b 1 0 + n)
    counted true n = grind (arith, nat_tests)
    counted false n = grind (arith, nat_tests)

pub in_ranges-permutation : (xs ys : List Range) (c : ℕ) → IsPermutation xs ys → in_ranges (pairs ys) c ≡ in_ranges (pairs xs) c
in_ranges-permutation xs ys c p =
    in_ranges-hits ys c
    ∙ ap (nat_lt 0) (sum_by-IsPermutation (λ (r : Range). cond (in_range (r.first, r.last) c) 1 0) xs ys p)
    ∙ sym (in_ranges-hits xs c)

-- ---- members

-- a set and the characters of another are equal if they are equal at each character
pub same_chars : (p q : Set) → ((c : ℕ) → scalar c ≡ true → p c ≡ q c) → only_chars p ≡ only_chars q
same_chars p q h = fun_ext (λ c. at c (scalar c) refl)
  where
    at : (c : ℕ) (b : Bool) → scalar c ≡ b → (scalar c && p c) ≡ (scalar c && q c)
    at c true e = ap (λ b. scalar c && b) (h c e)
    at c false e = ap (λ b. b && p c) e ∙ ap (λ b. b && q c) (sym e)

-- ranges with the members of the test are the set of the test
pub members_are : (xs : List (ℕ × ℕ)) (p : Set) → ((c : ℕ) → scalar c ≡ true → in_ranges xs c ≡ p c) → members xs ≡ only_chars p
members_are xs p h = same_chars (in_ranges xs) p h

pub only_chars_members : (xs : List (ℕ × ℕ)) → only_chars (members xs) ≡ members xs
only_chars_members xs = same_chars (members xs) (in_ranges xs) (λ c e. ap (λ b. b && in_ranges xs c) e)

-- the gaps of the gaps
pub twice_left_out : (c : ℕ) (b : Bool) → scalar c ≡ true → (nat_le c 0x10_FFFF && not (nat_le c 0x10_FFFF && not b)) ≡ b
twice_left_out c b h = rw (le-leb c 0x10_FFFF (char_bound c h)) (twice b)
  where
    twice : (b : Bool) → not (not b) ≡ b
    twice true = refl
    twice false = refl

pub complement_members : (xs ys : List (ℕ × ℕ)) (last : ℕ) → ((c : ℕ) → scalar c ≡ true → in_ranges ys c ≡ (nat_le c last && not (in_ranges xs c))) →
    members ys ≡ complement last (members xs)
complement_members xs ys last h =
    members_are ys (λ c. nat_le c last && not (members xs c))
    (λ c e. h c e ∙ ap (λ b. nat_le c last && not (b && in_ranges xs c)) (sym e))

pub union_members : (xs ys : List (ℕ × ℕ)) → members (xs ++ ys) ≡ union (members xs) (members ys)
union_members xs ys = fun_ext (λ c. ap (λ b. scalar c && b) (in_ranges-append xs ys c) ∙ shared (scalar c) (in_ranges xs c) (in_ranges ys c))
  where
    shared : (a b c : Bool) → (a && (b || c)) ≡ ((a && b) || (a && c))
    shared true b c = refl
    shared false b c = refl

pub intersection_by_complements : (xs ys : List (ℕ × ℕ)) →
    complement 0x10_FFFF (union (complement 0x10_FFFF (members xs)) (complement 0x10_FFFF (members ys))) ≡ intersection (members xs) (members ys)
intersection_by_complements xs ys = fun_ext (λ c. at c (scalar c) refl)
  where
    within : (a b : Bool) → (not (not a || not b)) ≡ (a && b)
    within true true = refl
    within true false = refl
    within false b = refl

    at : (c : ℕ) (b : Bool) → scalar c ≡ b →
        complement 0x10_FFFF (union (complement 0x10_FFFF (members xs)) (complement 0x10_FFFF (members ys))) c ≡ intersection (members xs) (members ys) c
    at c true e = rw (e, le-leb c 0x10_FFFF (char_bound c e)) (within (in_ranges xs c) (in_ranges ys c))
    at c false e = rw e refl

pub difference_by_complement : (xs ys : List (ℕ × ℕ)) → intersection (members xs) (complement 0x10_FFFF (members ys)) ≡ difference (members xs) (members ys)
difference_by_complement xs ys = fun_ext (λ c. at c (scalar c) refl)
  where
    at : (c : ℕ) (b : Bool) → scalar c ≡ b → intersection (members xs) (complement 0x10_FFFF (members ys)) c ≡ difference (members xs) (members ys) c
    at c true e = rw (e, le-leb c 0x10_FFFF (char_bound c e)) refl
    at c false e = rw e refl

pub symmetric_by_differences : (a b : Set) → union (difference a b) (difference b a) ≡ symmetric_difference a b
symmetric_by_differences a b = fun_ext (λ c. at (a c) (b c))
  where
    at : (x y : Bool) → ((x && not y) || (y && not x)) ≡ cond x (not y) y
    at true true = refl
    at true false = refl
    at false true = refl
    at false false = refl

pub bytes_by_complements : (xs : List (ℕ × ℕ)) → complement 255 (complement 0x10_FFFF (members xs)) ≡ intersection (members xs) (in_range (0, 255))
bytes_by_complements xs = fun_ext (λ c. at c (scalar c) refl)
  where
    twice : (c : ℕ) (b : Bool) → (nat_le c 255 && not (not b)) ≡ (b && (nat_le 0 c && nat_le c 255))
    twice c true = grind (arith, nat_tests)
    twice c false = grind (arith, nat_tests)

    at : (c : ℕ) (b : Bool) → scalar c ≡ b → complement 255 (complement 0x10_FFFF (members xs)) c ≡ intersection (members xs) (in_range (0, 255)) c
    at c true e = rw (e, le-leb c 0x10_FFFF (char_bound c e)) (twice c (in_ranges xs c))
    at c false e = rw e refl

-- ---- the test of membership, and the fact

pub InRanges-from_test : (xs : List (ℕ × ℕ)) (c : ℕ) → in_ranges xs c ≡ true → InRanges xs c
InRanges-from_test [] c h = absurd (both_ways false refl h)
InRanges-from_test (x ∷ xs) c h =
    ⊎_elim
    (λ here.
    let p = and_parts (nat_le x.0 c) (nat_le c x.1) here in
    (0, x, omega arith, refl, (leb-true x.0 c p.0, leb-true c x.1 p.1)))
    (λ later. let w = InRanges-from_test xs c later in (suc w.0, w.1, omega (arith, w.2), w.3, w.4))
    (or_cases (in_range x c) (in_ranges xs c) h)

pub in_ranges-from_fact : (xs : List (ℕ × ℕ)) (c : ℕ) → InRanges xs c → in_ranges xs c ≡ true
in_ranges-from_fact [] c (k, r, lt, at, h) = absurd (omega arith)
in_ranges-from_fact (x ∷ xs) c (zero, r, lt, at, h) =
    ap (λ s. in_range s c || in_ranges xs c) at
    ∙ ap (λ b. b || in_ranges xs c) (and_from (nat_le r.0 c) (nat_le c r.1) (le-leb r.0 c h.0) (le-leb c r.1 h.1))
in_ranges-from_fact (x ∷ xs) c (suc k, r, lt, at, h) =
    ap (λ b. in_range x c || b) (in_ranges-from_fact xs c (k, r, omega arith, at, h)) ∙ or_true (in_range x c)
  where
    or_true : (b : Bool) → (b || true) ≡ true
    or_true true = refl
    or_true false = refl
