-- Folding by the table of pairs.
use Rattle.std.proofs.Common.{◌≡◌, ◌≢◌, ℕ, zero, suc, ◌+◌, ◌-◌, ◌<◌, ◌≤◌, max, min, Bool, true, false, ◌&&◌, ◌||◌, ◌==◌, ◌⊎◌, nat_le, nat_lt, leb, ltb, List, [], ◌∷◌, length, get_or, take, drop, refl, sym, ap, ap₂, ◌∙◌, arith, inl, inr, ⊎_elim, Contains, slice_index_or}
use Rattle.std.proofs.lemmas.Bool.{and_parts, and_from, or_cases, both_ways, cases_lt, cases_eq, leb-true, leb-false, ltb-true, ltb-false, le-leb, lt-leb, eqb-true, eq-eqb}
use Rattle.std.proofs.lemmas.Bool.Decides.{nat_tests}
use Rattle.std.proofs.Math.Path.{fun_ext}
use Rattle.std.specs.List.{list_any, list_all}
use Rattle.std.specs.List.Sorted.{IsNonDecreasingBy, IsPartitionPoint}
use Rattle.std.proofs.lemmas.List.{take_rest, get_or-drop, length-drop}
use Rattle.std.specs.Char.{to_ascii_lowercase, to_ascii_uppercase}
use lib.Utf8.{scalar}
use Rattle.unicode.specs.CaseFolding.{simple_folding, simple_fold, fold_pairs}
use Rattle.unicode.proofs.BoundLemmas.{pairs_rise, pairs_rise-fold_pairs}
use Rattle.unicode.proofs.FoldPairsLemmas.{IsFoldPairs-fold_pairs}
use Rattle.unicode.proofs.CaseFoldingLemmas.{simple_folding_stepped}
use Rattle.unicode.proofs.TableComputing.{tables}
use Rattle.unicode.proofs.RangedFacts.{points_ok, Stepped-at_points}
use Rattle.logos_hir.specs.Sets.{Set, members, only_chars, in_range, in_ranges}
use Rattle.logos_hir.specs.Fold.{any_below, fold_case, fold_ascii}
use Rattle.logos_hir.specs.inside.FoldSteps.{in_values, in_image, shift}
use Rattle.logos_hir.proofs.lemmas.RangeLemmas.{or_assoc, or_false, char_bound, same_chars}

same_tests : (a b : Bool) → (a ≡ true → b ≡ true) → (b ≡ true → a ≡ true) → a ≡ b
same_tests true b f g = sym (f refl)
same_tests false true f g = g refl
same_tests false false f g = refl

-- ---- some element passes

-- where no element before an index passes
any_afterward : (f : ℕ × ℕ → Bool) (xs : List (ℕ × ℕ)) (i : ℕ) → ((k : ℕ) → k < i → k < length xs → f (get_or xs k (0, 0)) ≡ false) → list_any f xs ≡ list_any f (drop i xs)
any_afterward f xs zero h = refl
any_afterward f [] (suc i) h = refl
any_afterward f (x ∷ xs) (suc i) h =
    ap (λ b. b || list_any f xs) (h 0 (omega arith) (omega arith)) ∙ any_afterward f xs i (λ k lt within. h (suc k) (omega arith) (omega arith))

-- where none from an index on passes, and the others pass another test alike
any_front : (f g : ℕ × ℕ → Bool) (xs : List (ℕ × ℕ)) (i : ℕ) → ((k : ℕ) → i ≤ k → k < length xs → f (get_or xs k (0, 0)) ≡ false) →
    ((k : ℕ) → k < i → k < length xs → f (get_or xs k (0, 0)) ≡ g (get_or xs k (0, 0))) → list_any f xs ≡ list_any g (take i xs)
any_front f g [] zero h e = refl
any_front f g [] (suc i) h e = refl
any_front f g (x ∷ xs) zero h e =
    ap₂ ◌||◌ (h 0 (omega arith) (omega arith)) (any_front f g xs zero (λ k le within. h (suc k) (omega arith) (omega arith)) (λ k lt within. absurd (omega arith)))
any_front f g (x ∷ xs) (suc i) h e =
    ap₂ ◌||◌ (e 0 (omega arith) (omega arith))
    (any_front f g xs i (λ k le within. h (suc k) (omega arith) (omega arith)) (λ k lt within. e (suc k) (omega arith) (omega arith)))

-- the pairs between two points, of pairs that ascend
pub within_image : (xs : List (ℕ × ℕ)) (r : ℕ × ℕ) (i j c : ℕ) →
    ((k : ℕ) → k < i → k < length xs → (get_or xs k (0, 0)).0 < r.0) → ((k : ℕ) → k < length (drop i xs) → r.0 ≤ (get_or (drop i xs) k (0, 0)).0) →
    ((k : ℕ) → k < j → k < length (drop i xs) → (get_or (drop i xs) k (0, 0)).0 ≤ r.1) → ((k : ℕ) → j ≤ k → k < length (drop i xs) → r.1 < (get_or (drop i xs) k (0, 0)).0) →
    in_values (take j (drop i xs)) c ≡ in_image xs (in_range r) c
within_image xs r i j c below from to above =
    sym (any_afterward (λ p. in_range r p.0 && (p.1 == c)) xs i (λ k lt h. before (get_or xs k (0, 0)) (below k lt h))
    ∙ any_front (λ p. in_range r p.0 && (p.1 == c)) (λ p. p.1 == c) (drop i xs) j
    (λ k le h. afterward (get_or (drop i xs) k (0, 0)) (above k le h))
    (λ k lt h. inside (get_or (drop i xs) k (0, 0)) (from k h) (to k lt h)))
  where
    before : (p : ℕ × ℕ) → p.0 < r.0 → (in_range r p.0 && (p.1 == c)) ≡ false
    before p lt = ap (λ b. (b && nat_le p.0 r.1) && (p.1 == c)) (lt-leb r.0 p.0 lt)

    afterward : (p : ℕ × ℕ) → r.1 < p.0 → (in_range r p.0 && (p.1 == c)) ≡ false
    afterward p lt = ap (λ b. (nat_le r.0 p.0 && b) && (p.1 == c)) (lt-leb p.0 r.1 lt) ∙ none (nat_le r.0 p.0)
      where
        none : (b : Bool) → ((b && false) && (p.1 == c)) ≡ false
        none true = refl
        none false = refl

    inside : (p : ℕ × ℕ) → r.0 ≤ p.0 → p.0 ≤ r.1 → (in_range r p.0 && (p.1 == c)) ≡ (p.1 == c)
    inside p a b = ap₂ (λ x y. (x && y) && (p.1 == c)) (le-leb r.0 p.0 a) (le-leb p.0 r.1 b)

-- ---- the table

pair_rises : (a b : ℕ × ℕ) → (nat_lt a.0 b.0 || ((a.0 == b.0) && nat_lt a.1 b.1)) ≡ true → a.0 ≤ b.0
pair_rises a b h = grind (arith, nat_tests)

rises_parts : (last p : ℕ × ℕ) (ps : List (ℕ × ℕ)) → pairs_rise last (p ∷ ps) ≡ true → (last.0 ≤ p.0) × (pairs_rise p ps ≡ true)
unfolding pairs_rise
rises_parts last p ps h =
    let parts = and_parts (nat_lt last.0 p.0 || ((last.0 == p.0) && nat_lt last.1 p.1)) (pairs_rise p ps) h in
    (pair_rises last p parts.0, parts.1)

rise_from : (last : ℕ × ℕ) (ps : List (ℕ × ℕ)) (k : ℕ) (d : ℕ × ℕ) → pairs_rise last ps ≡ true → k < length ps → last.0 ≤ (get_or ps k d).0
rise_from last [] k d h lt = absurd (omega arith)
rise_from last (p ∷ ps) zero d h lt = (rises_parts last p ps h).0
rise_from last (p ∷ ps) (suc k) d h lt =
    let parts = rises_parts last p ps h in
    omega (arith, parts.0, rise_from p ps k d parts.1 (omega arith))

sorted_from : (last : ℕ × ℕ) (ps : List (ℕ × ℕ)) → pairs_rise last ps ≡ true → IsNonDecreasingBy (λ (p : ℕ × ℕ). p.0) ps
sorted_from last [] h i j d le lt = absurd (omega arith)
sorted_from last (p ∷ ps) h zero zero d le lt = omega arith
sorted_from last (p ∷ ps) h (suc i) zero d le lt = absurd (omega arith)
sorted_from last (p ∷ ps) h zero (suc j) d le lt = (rise_from p ps j d (rises_parts last p ps h).1 (omega arith))
sorted_from last (p ∷ ps) h (suc i) (suc j) d le lt = sorted_from p ps (rises_parts last p ps h).1 i j d (omega arith) (omega arith)

pub fold_pairs_sorted : IsNonDecreasingBy (λ (p : ℕ × ℕ). p.0) fold_pairs
fold_pairs_sorted = sorted_from (0, 0) fold_pairs pairs_rise-fold_pairs

-- ---- values and images

one_value : (v c : ℕ) → in_range (v, v) c ≡ (v == c)
one_value v c = grind (arith, nat_tests)

pub values_step : (out new rest : Bool) (v c : ℕ) → new ≡ (out || in_range (v, v) c) → (new || rest) ≡ (out || ((v == c) || rest))
values_step out new rest v c e = ap (λ b. b || rest) (e ∙ ap (λ b. out || b) (one_value v c)) ∙ or_assoc out (v == c) rest

pub image_union : (t : List (ℕ × ℕ)) (a b : Set) (c : ℕ) → in_image t (λ d. a d || b d) c ≡ (in_image t a c || in_image t b c)
image_union [] a b c = refl
image_union (p ∷ t) a b c = ap (λ x. ((a p.0 || b p.0) && (p.1 == c)) || x) (image_union t a b c) ∙ mixed (a p.0) (b p.0) (p.1 == c) (in_image t a c) (in_image t b c)
  where
    mixed : (x y z u v : Bool) → (((x || y) && z) || (u || v)) ≡ (((x && z) || u) || ((y && z) || v))
    mixed true true true u v = refl
    mixed true true false true v = refl
    mixed true true false false v = refl
    mixed true false true u v = refl
    mixed true false false true v = refl
    mixed true false false false v = refl
    mixed false true true true v = refl
    mixed false true true false v = refl
    mixed false true false true v = refl
    mixed false true false false v = refl
    mixed false false z true v = refl
    mixed false false z false v = refl

pub image_none : (t : List (ℕ × ℕ)) (c : ℕ) → in_image t (in_ranges []) c ≡ false
image_none [] c = refl
image_none (p ∷ t) c = image_none t c

-- one range more
pub folds_step : (out new : Bool) (t : List (ℕ × ℕ)) (r : ℕ × ℕ) (rest : List (ℕ × ℕ)) (c : ℕ) → new ≡ (out || in_image t (in_range r) c) →
    (new || in_image t (in_ranges rest) c) ≡ (out || in_image t (in_ranges (r ∷ rest)) c)
folds_step out new t r rest c e =
    ap (λ b. b || in_image t (in_ranges rest) c) e ∙ or_assoc out (in_image t (in_range r) c) (in_image t (in_ranges rest) c)
    ∙ ap (λ b. out || b) (sym (image_union t (in_range r) (in_ranges rest) c))

-- ---- one simple folding

any_below-at : (n : ℕ) (t : ℕ → Bool) (d : ℕ) → d < n → t d ≡ true → any_below n t ≡ true
unfolding any_below
any_below-at zero t d lt h = absurd (omega arith)
any_below-at (suc n) t d lt h =
    ⊎_elim (λ e. ap (λ b. b || any_below n t) (ap t (sym e) ∙ h)) (λ ne. ap (λ b. t n || b) (any_below-at n t d (omega (arith, ne, lt)) h) ∙ or_true (t n)) (cases_eq d n)
  where
    or_true : (b : Bool) → (b || true) ≡ true
    or_true true = refl
    or_true false = refl

any_below-find : (n : ℕ) (t : ℕ → Bool) → any_below n t ≡ true → (d : ℕ) × (d < n) × (t d ≡ true)
unfolding any_below
any_below-find zero t h = absurd (both_ways false refl h)
any_below-find (suc n) t h =
    ⊎_elim (λ e. (n, omega arith, e)) (λ later. let w = any_below-find n t later in (w.0, omega (arith, w.1), w.2)) (or_cases (t n) (any_below n t) h)

any_at : (f : ℕ × ℕ → Bool) (xs : List (ℕ × ℕ)) (x : ℕ × ℕ) → Contains xs x → f x ≡ true → list_any f xs ≡ true
any_at f [] x (k, lt, at) h = absurd (omega arith)
any_at f (y ∷ xs) x (zero, lt, at) h = ap (λ b. b || list_any f xs) (ap f at ∙ h)
any_at f (y ∷ xs) x (suc k, lt, at) h = ap (λ b. f y || b) (any_at f xs x (k, omega arith, at) h) ∙ or_true (f y)
  where
    or_true : (b : Bool) → (b || true) ≡ true
    or_true true = refl
    or_true false = refl

any_find : (f : ℕ × ℕ → Bool) (xs : List (ℕ × ℕ)) → list_any f xs ≡ true → (x : ℕ × ℕ) × Contains xs x × (f x ≡ true)
any_find f [] h = absurd (both_ways false refl h)
any_find f (y ∷ xs) h =
    ⊎_elim (λ e. (y, (zero, omega arith, refl), e)) (λ later. let w = any_find f xs later in (w.0, (suc w.1.0, omega (arith, w.1.1), w.1.2), w.2))
    (or_cases (f y) (list_any f xs) h)

is_empty : List ℕ → Bool
is_empty [] = true
is_empty (c ∷ cs) = false

-- both members of a pair of case folding are characters
folding_chars : (c : ℕ) → is_empty (simple_folding c) ≡ false → (scalar c && list_all scalar (simple_folding c)) ≡ true
unfolding tables points_ok simple_folding_stepped is_empty
folding_chars = Stepped-at_points simple_folding simple_folding_stepped is_empty (λ c v. scalar c && list_all scalar v) refl

-- a number that shares its simple folding with another is a character
fold_is_char : (a c : ℕ) → a ≢ c → simple_fold a ≡ simple_fold c → scalar a ≡ true
unfolding is_empty
fold_is_char a c ne e = at (simple_folding a) (simple_folding c) refl refl
  where
    at : (va vc : List ℕ) → simple_folding a ≡ va → simple_folding c ≡ vc → scalar a ≡ true
    at (x ∷ xs) vc ea ec = (and_parts (scalar a) (list_all scalar (simple_folding a)) (folding_chars a (ap is_empty ea))).0
    at [] [] ea ec = absurd (ne (sym (ap (λ v. slice_index_or v 0 a) ea) ∙ e ∙ ap (λ v. slice_index_or v 0 c) ec))
    at [] (y ∷ ys) ea ec =
        let all = (and_parts (scalar c) (list_all scalar (simple_folding c)) (folding_chars c (ap is_empty ec))).1 in
        let first = (and_parts (scalar y) (list_all scalar ys) (sym (ap (list_all scalar) ec) ∙ all)).0 in
        ap scalar (sym (ap (λ v. slice_index_or v 0 a) ea) ∙ e ∙ ap (λ v. slice_index_or v 0 c) ec) ∙ first

-- the members and the ends of pairs that begin with one
pub folded_members : (xs ys : List (ℕ × ℕ)) → ((c : ℕ) → in_ranges ys c ≡ (in_ranges xs c || in_image fold_pairs (in_ranges xs) c)) → members ys ≡ fold_case (members xs)
folded_members xs ys h = same_chars (in_ranges ys) (folds) (λ c hc. h c ∙ same_tests _ _ (to c hc) (from c))
  where
    folds : Set
    folds c = any_below 0x11_0000 (λ d. (scalar d && members xs d) && (simple_fold d == simple_fold c))

    member : (d c : ℕ) → scalar d ≡ true → in_ranges xs d ≡ true → simple_fold d ≡ simple_fold c → folds c ≡ true
    member d c hd hx e =
        any_below-at 0x11_0000 (λ d. (scalar d && members xs d) && (simple_fold d == simple_fold c)) d (omega (arith, char_bound d hd))
        (and_from (scalar d && members xs d) (simple_fold d == simple_fold c) (and_from (scalar d) (members xs d) hd (and_from (scalar d) (in_ranges xs d) hd hx)) (eq-eqb _ _ e))

    to : (c : ℕ) → scalar c ≡ true → (in_ranges xs c || in_image fold_pairs (in_ranges xs) c) ≡ true → folds c ≡ true
    to c hc t = ⊎_elim (λ here. member c c hc here refl) (λ there.
        let w = any_find (λ p. in_ranges xs p.0 && (p.1 == c)) fold_pairs there in
        let parts = and_parts (in_ranges xs w.0.0) (w.0.1 == c) w.2 in
        let same : w.0.1 ≡ c = eqb-true _ _ parts.1 in
        let pair = (IsFoldPairs-fold_pairs w.0.0 w.0.1).0 w.1 in
        let e : simple_fold w.0.0 ≡ simple_fold c = pair.1 ∙ ap simple_fold same in
        member w.0.0 c (fold_is_char w.0.0 c (λ x. pair.0 (x ∙ sym same)) e) parts.0 e)
        (or_cases (in_ranges xs c) (in_image fold_pairs (in_ranges xs) c) t)

    from : (c : ℕ) → folds c ≡ true → (in_ranges xs c || in_image fold_pairs (in_ranges xs) c) ≡ true
    from c t =
        let w = any_below-find 0x11_0000 (λ d. (scalar d && members xs d) && (simple_fold d == simple_fold c)) t in
        let parts = and_parts (scalar w.0 && members xs w.0) (simple_fold w.0 == simple_fold c) w.2 in
        let inside = (and_parts (scalar w.0) (in_ranges xs w.0) (and_parts (scalar w.0) (members xs w.0) parts.0).1).1 in
        ⊎_elim (λ e. ap (λ b. b || in_image fold_pairs (in_ranges xs) c) (ap (in_ranges xs) (sym e) ∙ inside))
        (λ ne.
        ap (λ b. in_ranges xs c || b)
        (any_at (λ p. in_ranges xs p.0 && (p.1 == c)) fold_pairs (w.0, c) ((IsFoldPairs-fold_pairs w.0 c).1 (ne, eqb-true _ _ parts.1))
        (and_from (in_ranges xs w.0) (c == c) inside (eq-eqb c c refl)))
        ∙ or_true (in_ranges xs c))
        (cases_eq w.0 c)
      where
        or_true : (b : Bool) → (b || true) ≡ true
        or_true true = refl
        or_true false = refl

-- ---- ASCII letters

pub moved_range : (r : ℕ × ℕ) (first last to start end c : ℕ) → start ≡ max r.0 first → end ≡ min r.1 last → start ≤ end → first ≤ last →
    in_range (start - first + to, end - first + to) c ≡ shift first last to (in_range r) c
moved_range r first last to start end c es ee le order = grind (arith, nat_tests)

pub moved_union : (first last to : ℕ) (a b : Set) (c : ℕ) → shift first last to (λ d. a d || b d) c ≡ (shift first last to a c || shift first last to b c)
moved_union first last to a b c = shared (nat_le to c && nat_le c (to + (last - first))) (a (c - to + first)) (b (c - to + first))
  where
    shared : (x y z : Bool) → (x && (y || z)) ≡ ((x && y) || (x && z))
    shared true y z = refl
    shared false y z = refl

or_comm : (a b : Bool) → (a || b) ≡ (b || a)
or_comm true true = refl
or_comm true false = refl
or_comm false true = refl
or_comm false false = refl

small_char : (c : ℕ) → c < 55296 → scalar c ≡ true
small_char c lt = grind (arith, nat_tests)

-- the three kinds of numbers: an upper-case letter, a lower-case one, any other
cased_upper : (s : Set) (c : ℕ) → 65 ≤ c → c < 91 →
    (scalar c && (s c || (shift 65 90 97 s c || shift 97 122 65 s c))) ≡ fold_ascii (only_chars s) c
cased_upper s c a b =
    let low : to_ascii_lowercase c ≡ c + 32 = grind (arith, nat_tests) in
    let high : to_ascii_uppercase c ≡ c = grind (arith, nat_tests) in
    let from : c - 65 + 97 ≡ c + 32 = omega arith in
    let lower : nat_le 97 c ≡ false = lt-leb 97 c (omega arith) in
    let upper : nat_le 65 c ≡ true = le-leb 65 c a in
    let last : nat_le c 90 ≡ true = le-leb c 90 (omega arith) in
    let char : scalar c ≡ true = small_char c (omega arith) in
    let other : scalar (c + 32) ≡ true = small_char (c + 32) (omega arith) in
    let left : (scalar c && (s c || (shift 65 90 97 s c || shift 97 122 65 s c))) ≡ (s c || s (c + 32)) =
    ap (λ b. b && (s c || (shift 65 90 97 s c || shift 97 122 65 s c))) char
    ∙ ap₂ (λ x y. s c || (((x && nat_le c 122) && s (c - 97 + 65)) || ((y && nat_le c 90) && s (c - 65 + 97)))) lower upper
    ∙ ap₂ (λ x n. s c || (x && s n)) last from in
    let right : fold_ascii (only_chars s) c ≡ (s (c + 32) || s c) =
    ap₂ (λ x y. only_chars s x || only_chars s y) low high ∙ ap₂ (λ x y. (x && s (c + 32)) || (y && s c)) other char in
    left ∙ or_comm (s c) (s (c + 32)) ∙ sym right

cased_lower : (s : Set) (c : ℕ) → 97 ≤ c → c < 123 →
    (scalar c && (s c || (shift 65 90 97 s c || shift 97 122 65 s c))) ≡ fold_ascii (only_chars s) c
cased_lower s c a b =
    let low : to_ascii_lowercase c ≡ c = grind (arith, nat_tests) in
    let high : to_ascii_uppercase c ≡ c - 32 = grind (arith, nat_tests) in
    let from : c - 97 + 65 ≡ c - 32 = omega arith in
    let first : nat_le 97 c ≡ true = le-leb 97 c a in
    let last : nat_le c 122 ≡ true = le-leb c 122 (omega arith) in
    let upper : nat_le c 90 ≡ false = lt-leb c 90 (omega arith) in
    let char : scalar c ≡ true = small_char c (omega arith) in
    let other : scalar (c - 32) ≡ true = small_char (c - 32) (omega arith) in
    let left : (scalar c && (s c || (shift 65 90 97 s c || shift 97 122 65 s c))) ≡ (s c || (s (c - 32) || ((nat_le 65 c && false) && s (c - 65 + 97)))) =
    ap (λ b. b && (s c || (shift 65 90 97 s c || shift 97 122 65 s c))) char
    ∙ ap₂ (λ x y. s c || (((x && y) && s (c - 97 + 65)) || ((nat_le 65 c && nat_le c 90) && s (c - 65 + 97)))) first last
    ∙ ap₂ (λ x n. s c || (s n || ((nat_le 65 c && x) && s (c - 65 + 97)))) upper from in
    let right : fold_ascii (only_chars s) c ≡ (s c || s (c - 32)) =
    ap₂ (λ x y. only_chars s x || only_chars s y) low high ∙ ap₂ (λ x y. (x && s c) || (y && s (c - 32))) char other in
    left ∙ ap (λ b. s c || b) (gone (nat_le 65 c) (s (c - 32)) (s (c - 65 + 97))) ∙ sym right
  where
    gone : (x y z : Bool) → (y || ((x && false) && z)) ≡ y
    gone true true z = refl
    gone true false z = refl
    gone false true z = refl
    gone false false z = refl

cased_other : (s : Set) (c : ℕ) → (c < 65) ⊎ ((91 ≤ c) × (c < 97)) ⊎ (123 ≤ c) →
    (scalar c && (s c || (shift 65 90 97 s c || shift 97 122 65 s c))) ≡ fold_ascii (only_chars s) c
cased_other s c h =
    let low : to_ascii_lowercase c ≡ c = grind (arith, nat_tests) in
    let high : to_ascii_uppercase c ≡ c = grind (arith, nat_tests) in
    let lower : (nat_le 97 c && nat_le c 122) ≡ false = grind (arith, nat_tests) in
    let upper : (nat_le 65 c && nat_le c 90) ≡ false = grind (arith, nat_tests) in
    ap₂ (λ x y. scalar c && (s c || ((x && s (c - 97 + 65)) || (y && s (c - 65 + 97))))) lower upper
    ∙ ap (λ b. scalar c && b) (or_false (s c)) ∙ twice (scalar c && s c) ∙ sym (ap₂ (λ x y. only_chars s x || only_chars s y) low high)
  where
    twice : (b : Bool) → b ≡ (b || b)
    twice true = refl
    twice false = refl

pub cased_members : (xs ys : List (ℕ × ℕ)) → ((c : ℕ) → in_ranges ys c ≡ (in_ranges xs c || (shift 65 90 97 (in_ranges xs) c || shift 97 122 65 (in_ranges xs) c))) →
    members ys ≡ fold_ascii (members xs)
cased_members xs ys h = fun_ext (λ c. ap (λ b. scalar c && b) (h c) ∙ at c (cases_lt c 65) (cases_lt c 91) (cases_lt c 97) (cases_lt c 123))
  where
    at : (c : ℕ) → (c < 65) ⊎ (65 ≤ c) → (c < 91) ⊎ (91 ≤ c) → (c < 97) ⊎ (97 ≤ c) → (c < 123) ⊎ (123 ≤ c) →
        (scalar c && (in_ranges xs c || (shift 65 90 97 (in_ranges xs) c || shift 97 122 65 (in_ranges xs) c))) ≡ fold_ascii (only_chars (in_ranges xs)) c
    at c (inl a) h i j = cased_other (in_ranges xs) c (inl a)
    at c (inr a) (inl b) i j = cased_upper (in_ranges xs) c a b
    at c (inr a) (inr b) (inl d) j = cased_other (in_ranges xs) c (inr (inl (b, d)))
    at c (inr a) (inr b) (inr d) (inl e) = cased_lower (in_ranges xs) c d e
    at c (inr a) (inr b) (inr d) (inr e) = cased_other (in_ranges xs) c (inr (inr e))

-- ---- the two points of a search

pub within_parts : (xs : List (ℕ × ℕ)) (first last i j c : ℕ) →
    IsPartitionPoint (λ p. ltb p.0 first ≡ true) (λ p. ltb p.0 first ≡ false) xs i →
    IsPartitionPoint (λ p. leb p.0 last ≡ true) (λ p. leb p.0 last ≡ false) (take (length xs - i) (drop i xs)) j →
    in_values (take j (take (length xs - i) (drop i xs))) c ≡ in_image xs (in_range (first, last)) c
within_parts xs first last i j c p q =
    let rest = take_rest xs i in
    ap (λ ys. in_values (take j ys) c) rest
    ∙ within_image xs (first, last) i j c
    (λ k lt h. ltb-true _ _ (p.0 k (0, 0) (omega arith) lt))
    (λ k h. rw (get_or-drop i xs k (0, 0)) (ltb-false _ _ (p.1 (i + k) (0, 0) (omega arith) (omega (arith, h, length-drop i xs)))))
    (λ k lt h. leb-true _ _ (ap (λ (ys : List (ℕ × ℕ)). leb (get_or ys k (0, 0)).0 last) (sym rest) ∙ q.0 k (0, 0) (omega arith) lt))
    (λ k le h. leb-false _ _ (ap (λ (ys : List (ℕ × ℕ)). leb (get_or ys k (0, 0)).0 last) (sym rest) ∙ q.1 k (0, 0) le (omega (arith, h, ap length rest))))
