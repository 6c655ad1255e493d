-- Ranges, and the comparisons that they come down to.
use Rattle.std.proofs.Common.{true≢false, eqb-true, length, drop, get_or, add-one, drop-cons, ◌-◌, ◌⊎◌, inl, inr, ◌≡◌, ℕ, ◌+◌, ◌<◌, ◌≤◌, Bool, true, false, not, ◌&&◌, ◌||◌, List, [], ◌∷◌, ◌++◌, map, if◌then◌else◌, ◌==◌, nat_le, refl, sym, ap, ◌∙◌, arith, append_assoc}
use Rattle.std.proofs.lemmas.Bool.Decides.{nat_tests}
use Rattle.std.proofs.Math.ListN.{drop_of_length-le}
use Rattle.std.proofs.lemmas.List.{get_or_default}
use Rattle.logos_hir.specs.ByteRanges.{is_in}
use Rattle.std.specs.Range.{range_inclusive_start, range_inclusive_end}
use Rattle.std.specs.declared.ops.RangeInclusive.{RangeInclusive}
use Rattle.logos_byte_class.specs.Bytes.{bounds, AreSeparatedFrom, Comparison, compares, some_compares, is_among, join, joined}

-- A comparison that is begun, in front of comparisons: the first one is joined to it if exactly one
-- byte lies between them.
abbrev pub join_to : ℕ → ℕ → List ℕ → List Comparison → List Comparison
join_to first last except [] = record { first = first; last = last; except = except } ∷ []
join_to first last except (c ∷ cs) =
    if c.first == last + 2 then record { first = first; last = c.last; except = except ++ (last + 1) ∷ c.except } ∷ cs
    else record { first = first; last = last; except = except } ∷ c ∷ cs

same_test : (a b : ℕ) → a ≡ b → (a == b) ≡ true
same_test a b e = grind (arith, nat_tests)

other_test : (a b : ℕ) → (a ≡ b → ⊥) → (a == b) ≡ false
other_test a b d = grind (arith, nat_tests)

-- the empty beginning
pub join_to_none : (first last : ℕ) (cs : List Comparison) → join_to first last [] cs ≡ join (first, last) cs
join_to_none first last [] = refl
join_to_none first last (c ∷ cs) = refl

-- one more range is taken in
pub join_to_more : (first last : ℕ) (except : List ℕ) (r : ℕ × ℕ) (rest : List (ℕ × ℕ)) → r.0 ≡ last + 2 →
    join_to first last except (joined (r ∷ rest)) ≡ join_to first r.1 (except ++ (last + 1) ∷ []) (joined rest)
join_to_more first last except r rest e = go (joined rest)
  where
    go : (cs : List Comparison) → join_to first last except (join r cs) ≡ join_to first r.1 (except ++ (last + 1) ∷ []) cs
    go [] = rw (same_test r.0 (last + 2) e) refl
    go (c ∷ cs) = by (c.first == r.1 + 2) refl
      where
        by : (t : Bool) → (c.first == r.1 + 2) ≡ t → join_to first last except (join r (c ∷ cs)) ≡ join_to first r.1 (except ++ (last + 1) ∷ []) (c ∷ cs)
        by true f = rw (f, same_test r.0 (last + 2) e) (rw append_assoc refl)
        by false f = rw (f, same_test r.0 (last + 2) e) refl

-- the next range is not taken in
pub join_to_end : (first last : ℕ) (except : List ℕ) (r : ℕ × ℕ) (rest : List (ℕ × ℕ)) → (r.0 ≡ last + 2 → ⊥) →
    join_to first last except (joined (r ∷ rest)) ≡ record { first = first; last = last; except = except } ∷ joined (r ∷ rest)
join_to_end first last except r rest d = go (joined rest)
  where
    go : (cs : List Comparison) → join_to first last except (join r cs) ≡ record { first = first; last = last; except = except } ∷ join r cs
    go [] = rw (other_test r.0 (last + 2) d) refl
    go (c ∷ cs) = by (c.first == r.1 + 2) refl
      where
        by : (t : Bool) → (c.first == r.1 + 2) ≡ t → join_to first last except (join r (c ∷ cs)) ≡ record { first = first; last = last; except = except } ∷ join r (c ∷ cs)
        by true f = rw (f, other_test r.0 (last + 2) d) refl
        by false f = rw (f, other_test r.0 (last + 2) d) refl

-- ranges that start later start later than less
pub AreSeparatedFrom-less : (m n : ℕ) (rs : List (ℕ × ℕ)) → m ≤ n → AreSeparatedFrom n rs → AreSeparatedFrom m rs
AreSeparatedFrom-less m n [] le h = h
AreSeparatedFrom-less m n (r ∷ rs) le h = (omega (arith, h.0), h.1, h.2)

-- no byte below the least start is a member
pub is_in-below : (n : ℕ) (rs : List (ℕ × ℕ)) (b : ℕ) → AreSeparatedFrom n rs → b < n → is_in rs b ≡ false
is_in-below n [] b h lt = refl
is_in-below n (r ∷ rs) b h lt =
    let low : nat_le r.0 b ≡ false = past r.0 b (omega (arith, h.0)) in
    let next = is_in-below (r.1 + 2) rs b h.2 (omega (arith, h.0, h.1)) in
    rw (low, next) refl
  where
    past : (a b : ℕ) → b < a → nat_le a b ≡ false
    past a b l = grind (arith, nat_tests)

-- one more range at the end
pub is_in-push : (rs : List (ℕ × ℕ)) (r : ℕ × ℕ) (b : ℕ) → is_in (rs ++ r ∷ []) b ≡ (is_in rs b || (nat_le r.0 b && nat_le b r.1))
is_in-push [] r b = or_false _
  where
    or_false : (t : Bool) → (t || false) ≡ t
    or_false true = refl
    or_false false = refl
is_in-push (x ∷ rs) r b = rw (is_in-push rs r b) (or_assoc (nat_le x.0 b && nat_le b x.1) (is_in rs b) (nat_le r.0 b && nat_le b r.1))
  where
    or_assoc : (t u v : Bool) → (t || (u || v)) ≡ ((t || u) || v)
    or_assoc true u v = refl
    or_assoc false u v = refl

-- a range of marked bytes is added: the bytes below the next one are determined
pub members_more : (rs : List (ℕ × ℕ)) (start end next : ℕ) (test : ℕ → Bool) → start < end → end ≤ next →
    ((b : ℕ) → b < start → is_in rs b ≡ test b) → ((b : ℕ) → start ≤ b → is_in rs b ≡ false) →
    ((b : ℕ) → start ≤ b → b < end → test b ≡ true) → ((b : ℕ) → end ≤ b → b < next → test b ≡ false) →
    (b : ℕ) → b < next → is_in (rs ++ (start, end - 1) ∷ []) b ≡ test b
members_more rs start end next test some le below above marked unmarked b lt =
    is_in-push rs (start, end - 1) b ∙ go (cases b start) (cases b end)
  where
    cases : (a c : ℕ) → (a < c) ⊎ (c ≤ a)
    cases a c = grind arith

    out_low : b < start → nat_le start b ≡ false
    out_low l = grind (arith, nat_tests)

    in_low : start ≤ b → nat_le start b ≡ true
    in_low l = grind (arith, nat_tests)

    in_high : b < end → nat_le b (end - 1) ≡ true
    in_high l = let k : b ≤ end - 1 = omega arith in grind (arith, nat_tests)

    out_high : end ≤ b → nat_le b (end - 1) ≡ false
    out_high l = let k : end - 1 < b = omega arith in grind (arith, nat_tests)

    or_false : (t : Bool) → (t || false) ≡ t
    or_false true = refl
    or_false false = refl

    go : (b < start) ⊎ (start ≤ b) → (b < end) ⊎ (end ≤ b) → (is_in rs b || (nat_le start b && nat_le b (end - 1))) ≡ test b
    go (inl x) y = rw (out_low x) (or_false _ ∙ below b x)
    go (inr x) (inl y) = rw (above b x, in_low x, in_high y) (sym (marked b x y))
    go (inr x) (inr y) = rw (above b x, in_low x, out_high y) (sym (unmarked b y lt))

pub no_others_more : (rs : List (ℕ × ℕ)) (start end next : ℕ) → start < end → end ≤ next →
    ((b : ℕ) → start ≤ b → is_in rs b ≡ false) → (b : ℕ) → next ≤ b → is_in (rs ++ (start, end - 1) ∷ []) b ≡ false
no_others_more rs start end next some le above b lt = is_in-push rs (start, end - 1) b ∙ rw (above b (omega arith), out) refl
  where
    in_low : nat_le start b ≡ true
    in_low = let k : start ≤ b = omega arith in grind (arith, nat_tests)

    out_high : nat_le b (end - 1) ≡ false
    out_high = let k : end - 1 < b = omega arith in grind (arith, nat_tests)

    out : (nat_le start b && nat_le b (end - 1)) ≡ false
    out = rw (in_low, out_high) refl

pub separated_more : (rs : List (ℕ × ℕ)) (start end next : ℕ) → start < end → end ≤ next → (end ≡ next → 256 ≤ next) →
    ((rest : List (ℕ × ℕ)) → AreSeparatedFrom start rest → (256 ≤ start → rest ≡ []) → AreSeparatedFrom 0 (rs ++ rest)) → start < 256 →
    (rest : List (ℕ × ℕ)) → AreSeparatedFrom next rest → (256 ≤ next → rest ≡ []) → AreSeparatedFrom 0 ((rs ++ (start, end - 1) ∷ []) ++ rest)
separated_more rs start end next some le over done small rest h none =
    rw append_assoc (done ((start, end - 1) ∷ rest) (omega arith, omega arith, go (cases end next)) (λ x. absurd (omega arith)))
  where
    cases : (a c : ℕ) → (a < c) ⊎ (c ≤ a)
    cases a c = grind arith

    go : (end < next) ⊎ (next ≤ end) → AreSeparatedFrom (end - 1 + 2) rest
    go (inl x) = AreSeparatedFrom-less (end - 1 + 2) next rest (omega arith) h
    go (inr x) = let e : rest ≡ [] = none (over (omega arith)) in rw e tt

-- a mark distinguishes two positions
pub marks_differ : (test : ℕ → Bool) (a b : ℕ) → a ≤ b → (a < 256 → test a ≡ true) → (b < 256 → test b ≡ false) → a < 256 → a < b
marks_differ test a b le x y small = go (cases a b)
  where
    cases : (a c : ℕ) → (a < c) ⊎ (c ≤ a)
    cases a c = grind arith

    go : (a < b) ⊎ (b ≤ a) → a < b
    go (inl l) = l
    go (inr l) =
        let e : a ≡ b = omega arith in
        absurd (true≢false (sym (x small) ∙ ap test e ∙ y (omega arith)))

pub same_marks : (test : ℕ → Bool) (a b : ℕ) → a ≡ b → (a < 256 → test a ≡ false) → (b < 256 → test b ≡ true) → 256 ≤ b
same_marks test a b e x y = go (cases b 256)
  where
    cases : (a c : ℕ) → (a < c) ⊎ (c ≤ a)
    cases a c = grind arith

    go : (b < 256) ⊎ (256 ≤ b) → 256 ≤ b
    go (inl l) = absurd (true≢false (sym (y l) ∙ ap test (sym e) ∙ x (omega arith)))
    go (inr l) = l

-- no byte below n is listed
abbrev IsFrom : ℕ → List ℕ → Type 0
IsFrom n bs = (b : ℕ) → b < n → is_among bs b ≡ false

-- the first comparison starts at n or later, and so do its exceptions
abbrev StartsFrom : ℕ → List Comparison → Type 0
StartsFrom n [] = Unit {0}
StartsFrom n (c ∷ cs) = (n ≤ c.first) × (c.first ≤ c.last) × IsFrom n c.except

joined_starts : (n : ℕ) (rs : List (ℕ × ℕ)) → AreSeparatedFrom n rs → StartsFrom n (joined rs)
joined_starts n [] h = tt
joined_starts n (r ∷ rs) h = go (joined rs) (joined_starts (r.1 + 2) rs h.2)
  where
    go : (cs : List Comparison) → StartsFrom (r.1 + 2) cs → StartsFrom n (join r cs)
    go [] k = (h.0, h.1, λ b lt. refl)
    go (c ∷ cs) k = by (c.first == r.1 + 2) refl
      where
        by : (t : Bool) → (c.first == r.1 + 2) ≡ t → StartsFrom n (join r (c ∷ cs))
        by true f = rw f (
          h.0,
          omega (arith, h.1, k.0, k.1),
          λ b lt.
              let d : ((r.1 + 1) == b) ≡ false = other_test (r.1 + 1) b (λ e. omega (arith, h.0, h.1, e, lt)) in
              rw d (k.2 b (omega (arith, h.0, h.1))),
        )
        by false f = rw f (h.0, h.1, λ b lt. refl)

le_test : (a b : ℕ) → a ≤ b → nat_le a b ≡ true
le_test a b l = grind (arith, nat_tests)

not_le_test : (a b : ℕ) → b < a → nat_le a b ≡ false
not_le_test a b l = grind (arith, nat_tests)

cases : (a c : ℕ) → (a < c) ⊎ (c ≤ a)
cases a c = grind arith

and_true : (t : Bool) → (t && true) ≡ t
and_true true = refl
and_true false = refl

and_false : (t : Bool) → (t && false) ≡ false
and_false true = refl
and_false false = refl

-- a comparison that took in a range holds for the bytes of both
taken_in : (r : ℕ × ℕ) (c : Comparison) (b : ℕ) → r.0 ≤ r.1 → c.first ≡ r.1 + 2 → c.first ≤ c.last → IsFrom (r.1 + 2) c.except →
    compares (record { first = r.0; last = c.last; except = (r.1 + 1) ∷ c.except }) b ≡ ((nat_le r.0 b && nat_le b r.1) || compares c b)
taken_in r c b some start le from = go (cases b r.0) (cases r.1 b) (cases b (r.1 + 2))
  where
    go : (b < r.0) ⊎ (r.0 ≤ b) → (r.1 < b) ⊎ (b ≤ r.1) → (b < r.1 + 2) ⊎ (r.1 + 2 ≤ b) →
        compares (record { first = r.0; last = c.last; except = (r.1 + 1) ∷ c.except }) b ≡ ((nat_le r.0 b && nat_le b r.1) || compares c b)
    go (inl x) y z = rw (not_le_test r.0 b x, not_le_test c.first b (omega arith)) refl
    go (inr x) (inr y) z =
        let d : ((r.1 + 1) == b) ≡ false = other_test (r.1 + 1) b (λ e. omega arith) in
        rw (le_test r.0 b x, le_test b r.1 y, le_test b c.last (omega arith), d, from b (omega arith)) refl
    go (inr x) (inl y) (inl z) =
        let d : ((r.1 + 1) == b) ≡ true = same_test (r.1 + 1) b (omega arith) in
        rw (le_test r.0 b x, not_le_test b r.1 y, not_le_test c.first b (omega arith), d) (and_false _)
    go (inr x) (inl y) (inr z) =
        let d : ((r.1 + 1) == b) ≡ false = other_test (r.1 + 1) b (λ e. omega arith) in
        rw (le_test r.0 b x, not_le_test b r.1 y, le_test c.first b (omega arith), d) refl

or_assoc : (t u v : Bool) → ((t || u) || v) ≡ (t || (u || v))
or_assoc true u v = refl
or_assoc false u v = refl

-- the comparisons hold for the members of separated ranges alone
pub joined_compares : (n : ℕ) (rs : List (ℕ × ℕ)) (b : ℕ) → AreSeparatedFrom n rs → some_compares (joined rs) b ≡ is_in rs b
joined_compares n [] b h = refl
joined_compares n (r ∷ rs) b h =
    go (joined rs) (joined_starts (r.1 + 2) rs h.2) ∙ ap (λ t. (nat_le r.0 b && nat_le b r.1) || t) (joined_compares (r.1 + 2) rs b h.2)
  where
    go : (cs : List Comparison) → StartsFrom (r.1 + 2) cs → some_compares (join r cs) b ≡ ((nat_le r.0 b && nat_le b r.1) || some_compares cs b)
    go [] k = ap (λ t. t || false) (and_true (nat_le r.0 b && nat_le b r.1))
    go (c ∷ cs) k = by (c.first == r.1 + 2) refl
      where
        by : (t : Bool) → (c.first == r.1 + 2) ≡ t → some_compares (join r (c ∷ cs)) b ≡ ((nat_le r.0 b && nat_le b r.1) || some_compares (c ∷ cs) b)
        by true f = rw f (ap (λ t. t || some_compares cs b) (taken_in r c b h.1 (eqb-true _ _ f) k.1 k.2) ∙ or_assoc (nat_le r.0 b && nat_le b r.1) (compares c b) (some_compares cs b))
        by false f = rw f (ap (λ t. t || some_compares (c ∷ cs) b) (and_true (nat_le r.0 b && nat_le b r.1)))

front : (xs : List (RangeInclusive ℕ)) (i : ℕ) (d : RangeInclusive ℕ) → i < length xs →
    map bounds (drop i xs) ≡ bounds (get_or xs i d) ∷ map bounds (drop (i + 1) xs)
front xs i d lt = rw (add-one, drop-cons xs i d) refl

-- the next range is taken in
pub next_taken : (xs : List (RangeInclusive ℕ)) (i : ℕ) (d e : RangeInclusive ℕ) (first last start end : ℕ) (except : List ℕ) →
    i < length xs → start ≡ range_inclusive_start (get_or xs i d) → end ≡ range_inclusive_end (get_or xs i e) → start ≡ last + 2 →
    join_to first last except (joined (map bounds (drop i xs)))
    ≡ join_to first end (except ++ (last + 1) ∷ []) (joined (map bounds (drop (i + 1) xs)))
next_taken xs i d e first last start end except lt s t taken =
    let same : get_or xs i e ≡ get_or xs i d = get_or_default xs i e d lt in
    ap (λ rs. join_to first last except (joined rs)) (front xs i d lt)
    ∙ join_to_more first last except (bounds (get_or xs i d)) (map bounds (drop (i + 1) xs)) (sym s ∙ taken)
    ∙ ap (λ n. join_to first n (except ++ (last + 1) ∷ []) (joined (map bounds (drop (i + 1) xs)))) (sym (t ∙ ap range_inclusive_end same))

-- the ranges are over, or the next one is not taken in
pub none_taken : (xs : List (RangeInclusive ℕ)) (i first last : ℕ) (except : List ℕ) → length xs ≤ i →
    join_to first last except (joined (map bounds (drop i xs))) ≡ record { first = first; last = last; except = except } ∷ joined (map bounds (drop i xs))
none_taken xs i first last except le = rw (drop_of_length-le xs le) refl

pub next_not_taken : (xs : List (RangeInclusive ℕ)) (i : ℕ) (d : RangeInclusive ℕ) (first last start : ℕ) (except : List ℕ) → i < length xs →
    start ≡ range_inclusive_start (get_or xs i d) → (start ≡ last + 2 → ⊥) →
    join_to first last except (joined (map bounds (drop i xs))) ≡ record { first = first; last = last; except = except } ∷ joined (map bounds (drop i xs))
next_not_taken xs i d first last start except lt s not =
    rw (front xs i d lt) (join_to_end first last except (bounds (get_or xs i d)) (map bounds (drop (i + 1) xs)) (λ e. not (s ∙ e)))
