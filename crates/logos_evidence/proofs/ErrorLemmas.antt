-- Where errors end, in two graphs.
use Rattle.std.proofs.Common.{◌≡◌, ℕ, zero, suc, ◌+◌, ◌-◌, ◌<◌, ◌≤◌, ◌⊎◌, Bool, true, false, not, ◌&&◌, ◌||◌, List, length, drop, IsTrue, nat_lt, nat_le, slice_index, refl, sym, ap, ◌∙◌, subst, inl, inr, arith, lt-ltb, le-ltb, le-leb}
use Rattle.std.proofs.lemmas.Bool.{cases_lt, and_parts, lt-leb}
use Rattle.std.proofs.lemmas.Bool.Decides.{nat_tests}
use Rattle.std.proofs.lemmas.List.{get_or-drop, length-drop}
use Rattle.std.specs.Str.{IsCharBoundary}
use Rattle.logos_graph.specs.Found.{CoversWalk, IsUnmarked}
use Rattle.logos_graph.specs.Graph.{GraphState}
use Rattle.logos_evidence.specs.inside.Machines.{is_cut}
use Rattle.logos_evidence.proofs.AliveLemmas.{alive, fewer}

-- ---- Boundaries

cut_byte : (utf8 : Bool) (b : ℕ) → (IsTrue utf8 → 128 ≤ b → 192 ≤ b) → is_cut utf8 b ≡ true
cut_byte false b h = refl
cut_byte true b h = elim (cases_lt b 128) [ inl l ↦ rw (lt-ltb b 128 l) refl | inr l ↦ let m : 192 ≤ b = h refl l in rw (le-ltb b 128 l, le-leb 192 b m) refl ]

byte_cut : (utf8 : Bool) (b : ℕ) → is_cut utf8 b ≡ true → IsTrue utf8 → 128 ≤ b → 192 ≤ b
byte_cut false b e t l = cc
byte_cut true b e t l = elim (cases_lt b 192) [ inl m ↦ let f : is_cut true b ≡ false = rw (le-ltb b 128 l, lt-leb 192 b m) refl in absurd (let clash : true ≡ false = sym e ∙ f in cc) | inr m ↦ m ]

module _ (utf8 : Bool) (bytes : List ℕ) (from : ℕ) where
  abbrev rest : List ℕ
  rest = drop from bytes

  at_rest : (to : ℕ) → from ≤ to → slice_index rest (to - from) ≡ slice_index bytes to
  at_rest to l = let e : from + (to - from) ≡ to = omega arith in get_or-drop from bytes (to - from) 0 ∙ ap (slice_index bytes) e

  cut_at : (to : ℕ) → from ≤ to → to < length bytes → (IsTrue utf8 → IsCharBoundary bytes to) → is_cut utf8 (slice_index rest (to - from)) ≡ true
  cut_at to l m h = ap (is_cut utf8) (at_rest to l) ∙ cut_byte utf8 (slice_index bytes to) (λ t b. (h t).1 m b)

  boundary_at : (at : ℕ) → from + at < length bytes → is_cut utf8 (slice_index rest at) ≡ true → IsTrue utf8 → IsCharBoundary bytes (from + at)
  boundary_at at l e t =
      let byte : slice_index rest at ≡ slice_index bytes (from + at) = get_or-drop from bytes at 0 in
      (omega arith, λ m b. byte_cut utf8 (slice_index bytes (from + at)) (ap (is_cut utf8) (sym byte) ∙ e) t b)

  -- ---- Two graphs

  pub covers_too : (g h : List GraphState) → ((at : ℕ) → at < length rest → 0 < at → is_cut utf8 (slice_index rest at) ≡ true → alive g 0 rest (suc at) ≡ alive h 0 rest (suc at)) →
      (to : ℕ) → CoversWalk g utf8 bytes from to → CoversWalk h utf8 bytes from to
  covers_too g h same to c = record { nonempty = c.nonempty; covers = λ n l s. all n l s (cases_lt to (from + n)); boundary = c.boundary }
    where
      all : (n : ℕ) → n ≤ length rest → alive h 0 rest n ≡ true → (to < from + n) ⊎ (from + n ≤ to) → from + n ≤ to
      all n l s (inr m) = m
      all n l s (inl m) =
          let more = c.nonempty in
          let size = length-drop from bytes in
          let cut = cut_at to (omega arith) (omega (arith, size, l, m)) c.boundary in
          let at_h = fewer h rest 0 (suc (to - from)) n (omega (arith, m, more)) s in
          let at_g = same (to - from) (omega (arith, m, more, l)) (omega (arith, more)) cut ∙ at_h in
          let too_far = c.covers (suc (to - from)) (omega (arith, m, more, l)) at_g in
          absurd (omega (arith, too_far, more))

  pub errors_agree : (g h : List GraphState) → ((at : ℕ) → at < length rest → 0 < at → is_cut utf8 (slice_index rest at) ≡ true → alive g 0 rest (suc at) ≡ alive h 0 rest (suc at)) →
      (to end : ℕ) → IsUnmarked g utf8 bytes from to → IsUnmarked h utf8 bytes from end → to ≡ end
  errors_agree g h same to end x y =
      let a = y.least to (covers_too g h same to x.covers) in
      let b = x.least end (covers_too h g (λ at l p e. sym (same at l p e)) end y.covers) in
      omega (arith, a, b)

  pub ends_apart : (g h : List GraphState) (at : ℕ) → 0 < at → at < length rest → is_cut utf8 (slice_index rest at) ≡ true →
      alive g 0 rest (suc at) ≡ true → alive h 0 rest (suc at) ≡ false → (to end : ℕ) → IsUnmarked g utf8 bytes from to → IsUnmarked h utf8 bytes from end → end < to
  ends_apart g h at p l cut continues stops to end x y =
      let far = x.covers.covers (suc at) (omega arith) continues in
      let size = length-drop from bytes in
      let near = y.least (from + at) (record { nonempty = omega arith; covers = λ n m s. all n s (cases_lt at n); boundary = boundary_at at (omega (arith, l, size)) cut }) in
      omega (arith, far, near)
    where
      all : (n : ℕ) → alive h 0 rest n ≡ true → (at < n) ⊎ (n ≤ at) → from + n ≤ from + at
      all n s (inr m) = omega arith
      all n s (inl m) = absurd (let clash : true ≡ false = sym (fewer h rest 0 (suc at) n (omega arith) s) ∙ stops in cc)

-- ---- There is an end of each error

-- the first number that passes a test
first_from : (t : ℕ → Bool) (n : ℕ) → t n ≡ true → (fuel k : ℕ) → k + fuel ≡ n → ((j : ℕ) → j < k → t j ≡ false) → (m : ℕ) × (t m ≡ true) × ((j : ℕ) → t j ≡ true → m ≤ j)
first_from t n e zero k l none =
    let same : k ≡ n = omega arith in
    (n, e, λ j y. at_least j y (cases_lt j n) (subst (λ (x : ℕ). (j : ℕ) → j < x → t j ≡ false) same none))
  where
    at_least : (j : ℕ) → t j ≡ true → (j < n) ⊎ (n ≤ j) → ((i : ℕ) → i < n → t i ≡ false) → n ≤ j
    at_least j y (inr m) h = m
    at_least j y (inl m) h = absurd (let clash : true ≡ false = sym y ∙ h j m in cc)
first_from t n e (suc fuel) k l none = go (first_from t n e fuel (suc k) (omega arith)) (t k) refl
  where
    below : (j : ℕ) → t j ≡ true → (j < k) ⊎ (k ≤ j) → k ≤ j
    below j y (inr m) = m
    below j y (inl m) = absurd (let clash : true ≡ false = sym y ∙ none j m in cc)

    one_more : t k ≡ false → (j : ℕ) → (j < k) ⊎ (k ≤ j) → j < suc k → t j ≡ false
    one_more f j (inl m) s = none j m
    one_more f j (inr m) s = let same : k ≡ j = omega arith in subst (λ (x : ℕ). t x ≡ false) same f

    go : (((j : ℕ) → j < suc k → t j ≡ false) → (m : ℕ) × (t m ≡ true) × ((j : ℕ) → t j ≡ true → m ≤ j)) → (b : Bool) → t k ≡ b → (m : ℕ) × (t m ≡ true) × ((j : ℕ) → t j ≡ true → m ≤ j)
    go ih true is = (k, is, λ j y. below j y (cases_lt j k))
    go ih false is = ih (λ j s. one_more is j (cases_lt j k) s)

pub first_number : (t : ℕ → Bool) (n : ℕ) → t n ≡ true → (m : ℕ) × (t m ≡ true) × ((j : ℕ) → t j ≡ true → m ≤ j)
first_number t n e = first_from t n e n 0 (omega arith) (λ j l. absurd (omega arith))

is_or : (a b : Bool) → (a ≡ true) ⊎ (b ≡ true) → (a || b) ≡ true
is_or true b h = refl
is_or false b (inl e) = cc
is_or false b (inr e) = e

or_is : (a b : Bool) → (a || b) ≡ true → (a ≡ true) ⊎ (b ≡ true)
or_is true b e = inl refl
or_is false b e = inr e

is_and : (a b : Bool) → a ≡ true → b ≡ true → (a && b) ≡ true
is_and true b p q = q
is_and false b p q = cc

is_le : (a b : ℕ) → nat_le a b ≡ true → a ≤ b
is_le a b e = grind (arith, nat_tests)

is_lt : (a b : ℕ) → nat_lt a b ≡ true → a < b
is_lt a b e = grind (arith, nat_tests)

not_true : (a : Bool) → not a ≡ true → a ≡ false
not_true true e = cc
not_true false e = refl

module _ (g : List GraphState) (utf8 : Bool) (bytes : List ℕ) (from : ℕ) where
  abbrev left : List ℕ
  left = drop from bytes

  abbrev cut_test : ℕ → Bool
  cut_test to = not utf8 || (nat_le to (length bytes) && (nat_le (length bytes) to || (nat_lt (slice_index bytes to) 128 || nat_le 192 (slice_index bytes to))))

  abbrev stop_test : ℕ → Bool
  stop_test to = nat_lt from to && ((nat_le (length left) (to - from) || not (alive g 0 left (suc (to - from)))) && cut_test to)

  cut_is : (m : Bool) (to : ℕ) → (not m || (nat_le to (length bytes) && (nat_le (length bytes) to || (nat_lt (slice_index bytes to) 128 || nat_le 192 (slice_index bytes to))))) ≡ true →
      IsTrue m → IsCharBoundary bytes to
  cut_is false to e t = cc
  cut_is true to e t =
      let parts = and_parts (nat_le to (length bytes)) _ e in
      (is_le to (length bytes) parts.0, λ l b. go l b (or_is _ _ parts.1))
    where
      go : to < length bytes → 128 ≤ slice_index bytes to → (nat_le (length bytes) to ≡ true) ⊎ ((nat_lt (slice_index bytes to) 128 || nat_le 192 (slice_index bytes to)) ≡ true) → 192 ≤ slice_index bytes to
      go l b (inl h) = let m = is_le _ _ h in absurd (omega (arith, m, l))
      go l b (inr h) = at_byte (or_is _ _ h)
        where
          at_byte : (nat_lt (slice_index bytes to) 128 ≡ true) ⊎ (nat_le 192 (slice_index bytes to) ≡ true) → 192 ≤ slice_index bytes to
          at_byte (inl k) = let m = is_lt _ _ k in absurd (omega (arith, m, b))
          at_byte (inr k) = is_le _ _ k

  is_cut_at : (m : Bool) (to : ℕ) → (IsTrue m → IsCharBoundary bytes to) →
      (not m || (nat_le to (length bytes) && (nat_le (length bytes) to || (nat_lt (slice_index bytes to) 128 || nat_le 192 (slice_index bytes to))))) ≡ true
  is_cut_at false to h = refl
  is_cut_at true to h =
      let b = h refl in
      is_and _ _ (le-leb to (length bytes) b.0) (at_end (cases_lt to (length bytes)) b.1)
    where
      at_end : (to < length bytes) ⊎ (length bytes ≤ to) → (to < length bytes → 128 ≤ slice_index bytes to → 192 ≤ slice_index bytes to) →
          (nat_le (length bytes) to || (nat_lt (slice_index bytes to) 128 || nat_le 192 (slice_index bytes to))) ≡ true
      at_end (inr l) k = is_or _ _ (inl (le-leb (length bytes) to l))
      at_end (inl l) k = is_or _ _ (inr (at_byte (cases_lt (slice_index bytes to) 128) (k l)))
        where
          at_byte : (slice_index bytes to < 128) ⊎ (128 ≤ slice_index bytes to) → (128 ≤ slice_index bytes to → 192 ≤ slice_index bytes to) →
              (nat_lt (slice_index bytes to) 128 || nat_le 192 (slice_index bytes to)) ≡ true
          at_byte (inl m) j = is_or _ _ (inl (lt-ltb (slice_index bytes to) 128 m))
          at_byte (inr m) j = is_or _ _ (inr (le-leb 192 (slice_index bytes to) (j m)))

  test_covers : (to : ℕ) → stop_test to ≡ true → CoversWalk g utf8 bytes from to
  test_covers to e =
      let first = and_parts (nat_lt from to) _ e in
      let others = and_parts _ (cut_test to) first.1 in
      let more = is_lt from to first.0 in
      record { nonempty = more; covers = λ n l s. all n l s more (cases_lt to (from + n)) (or_is _ _ others.0); boundary = cut_is utf8 to others.1 }
    where
      all : (n : ℕ) → n ≤ length left → alive g 0 left n ≡ true → from < to → (to < from + n) ⊎ (from + n ≤ to) →
          (nat_le (length left) (to - from) ≡ true) ⊎ (not (alive g 0 left (suc (to - from))) ≡ true) → from + n ≤ to
      all n l s more (inr m) h = m
      all n l s more (inl m) (inl h) = let k = is_le _ _ h in absurd (omega (arith, k, l, m, more))
      all n l s more (inl m) (inr h) =
          let on : alive g 0 left (suc (to - from)) ≡ true = fewer g left 0 (suc (to - from)) n (omega (arith, m, more)) s in
          absurd (let clash : true ≡ false = sym on ∙ not_true _ h in cc)

  covers_test : (to : ℕ) → CoversWalk g utf8 bytes from to → stop_test to ≡ true
  covers_test to c =
      let more = c.nonempty in
      is_and _ _ (lt-ltb from to more) (is_and _ _ (is_or _ _ (far more (cases_lt (to - from) (length left)) (alive g 0 left (suc (to - from))) refl)) (is_cut_at utf8 to c.boundary))
    where
      far : from < to → (to - from < length left) ⊎ (length left ≤ to - from) → (b : Bool) → alive g 0 left (suc (to - from)) ≡ b →
          (nat_le (length left) (to - from) ≡ true) ⊎ (not (alive g 0 left (suc (to - from))) ≡ true)
      far more (inr l) b is = inl (le-leb (length left) (to - from) l)
      far more (inl l) false is = inr (ap not is)
      far more (inl l) true is = let k = c.covers (suc (to - from)) (omega arith) is in absurd (omega (arith, k, more))

  at_end : from < length bytes → CoversWalk g utf8 bytes from (length bytes)
  at_end l = record {
    nonempty = l;
    covers = λ n m s. let size = length-drop from bytes in omega (arith, m, size, l);
    boundary = λ t. (omega arith, λ m b. absurd (omega arith));
  }

  -- an error ends somewhere
  pub error_ends : from < length bytes → (to : ℕ) × CoversWalk g utf8 bytes from to × ((other : ℕ) → CoversWalk g utf8 bytes from other → to ≤ other)
  error_ends l =
      let m = first_number stop_test (length bytes) (covers_test (length bytes) (at_end l)) in
      (m.0, test_covers m.0 m.1, λ other c. m.2 other (covers_test other c))
