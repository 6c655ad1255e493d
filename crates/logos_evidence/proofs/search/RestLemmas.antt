-- The required rest of a character, read from the last three bytes, and when the bytes are UTF-8.
use Rattle.std.proofs.Common.{◌≡◌, ℕ, suc, ◌-◌, ◌<◌, ◌≤◌, ◌⊎◌, ◌==◌, true, false, List, [], ◌∷◌, Option, Some, None, refl, sym, ap, ◌∙◌, subst, inl, inr, arith, lt-ltb, le-ltb, le-leb, option_and_then}
use Rattle.std.proofs.lemmas.Bool.{cases_lt, lt-leb}
use Rattle.std.proofs.lemmas.Bool.Decides.{nat_tests}
use Rattle.std.proofs.lemmas.Option.{same_Some}
use Rattle.std.specs.Str.{IsUtf8}
use Rattle.simdutf8.specs.Steps.{IsContinuation, least_after, most_after, IsClosed, first, second, later, Step, StepsThen}
use Rattle.simdutf8.proofs.Chars.{least_is, most_is, StepsThen-IsUtf8}
use Rattle.logos_evidence.specs.search.Rests.{more, begun, rest_after, rest_over}
use Rattle.logos_evidence.specs.declared.search.utf8.Rest.{Rest}

abbrev pub lead : ℕ → ℕ → Rest
lead z n = record { low = least_after z; high = most_after z; count = n }

-- the required rest of a character after the bytes x, y and z
data Fits (rest : Rest) (x y z : ℕ) : Type 0 where
  closed : rest ≡ more 0 → IsClosed x y z → Fits rest x y z
  pair : rest ≡ more 1 → (x < 0xf0) × (y < 0xe0) → (0xc2 ≤ z) × (z < 0xe0) → Fits rest x y z
  triple : rest ≡ lead z 2 → (x < 0xf0) × (y < 0xe0) → (0xe0 ≤ z) × (z < 0xf0) → Fits rest x y z
  quadruple : rest ≡ lead z 3 → (x < 0xf0) × (y < 0xe0) → (0xf0 ≤ z) × (z < 0xf5) → Fits rest x y z
  third : rest ≡ more 1 → (0xe0 ≤ y) × (y < 0xf0) → IsContinuation z → Fits rest x y z
  two : rest ≡ more 2 → (0xf0 ≤ y) × (y < 0xf5) → IsContinuation z → Fits rest x y z
  fourth : rest ≡ more 1 → (0xf0 ≤ x) → IsContinuation y → IsContinuation z → Fits rest x y z

-- all bytes have followed
abbrev pub IsDone : Option Rest → Type 0
IsDone o = (rest : Rest) × (o ≡ Some rest) × (rest.count ≡ 0)

-- ---- One byte

not_zero : (n : ℕ) → (suc n == 0) ≡ false
not_zero n = grind (arith, nat_tests)

one_less : (n : ℕ) → suc n - 1 ≡ n
one_less n = omega arith

pub inside : (low high n b : ℕ) → low ≤ b → b ≤ high → rest_after (record { low = low; high = high; count = suc n }) b ≡ Some (more n)
inside low high n b l h = rw (not_zero n, le-leb low b l, le-leb b high h, one_less n) refl

outside_low : (low high n b : ℕ) → b < low → rest_after (record { low = low; high = high; count = suc n }) b ≡ None
outside_low low high n b l = rw (not_zero n, lt-leb low b l) refl

outside_high : (low high n b : ℕ) → low ≤ b → high < b → rest_after (record { low = low; high = high; count = suc n }) b ≡ None
outside_high low high n b l h = rw (not_zero n, le-leb low b l, lt-leb b high h) refl

pub ascii : (b : ℕ) → b < 0x80 → begun b ≡ Some (more 0)
ascii b l = rw (lt-ltb b 0x80 l) refl

pub stray : (b : ℕ) → 0x80 ≤ b → b < 0xc2 → begun b ≡ None
stray b l h = rw (le-ltb b 0x80 l, lt-ltb b 0xc2 h) refl

pub of_two : (b : ℕ) → 0xc2 ≤ b → b < 0xe0 → begun b ≡ Some (more 1)
of_two b l h = rw (le-ltb b 0x80 (omega arith), le-ltb b 0xc2 l, lt-ltb b 0xe0 h) refl

pub of_three : (b : ℕ) → 0xe0 ≤ b → b < 0xf0 → begun b ≡ Some (lead b 2)
of_three b l h = rw (le-ltb b 0x80 (omega arith), le-ltb b 0xc2 (omega arith), le-ltb b 0xe0 l, lt-ltb b 0xf0 h) refl

pub of_four : (b : ℕ) → 0xf0 ≤ b → b < 0xf5 → begun b ≡ Some (lead b 3)
of_four b l h = rw (le-ltb b 0x80 (omega arith), le-ltb b 0xc2 (omega arith), le-ltb b 0xe0 (omega arith), le-ltb b 0xf0 l, lt-ltb b 0xf5 h) refl

pub past : (b : ℕ) → 0xf5 ≤ b → begun b ≡ None
past b l = rw (le-ltb b 0x80 (omega arith), le-ltb b 0xc2 (omega arith), le-ltb b 0xe0 (omega arith), le-ltb b 0xf0 (omega arith), le-ltb b 0xf5 l) refl

-- ---- From the rule on three bytes

abbrev Valid : ℕ → ℕ → ℕ → List ℕ → Type 0
Valid = StepsThen IsClosed

-- no character begins with z
no_lead : (x y z : ℕ) (bs : List ℕ) → (x < 0xf0) × (y < 0xe0) → 0xc0 ≤ z → (z < 0xc2) ⊎ (0xf5 ≤ z) → Valid x y z bs → ⊥
no_lead x y z [] c l n v = omega (arith, v, l)
no_lead x y z (b ∷ bs) c l n v =
    elim v.0 [
      | first p q ↦ omega (arith, p, l)
      | second p q r ↦ elim n [ inl m ↦ omega (arith, q, m) | inr m ↦ omega (arith, q, m) ]
      | later p q r ↦ omega (arith, q, l)
    ]

pub on_rest : (o : Option Rest) (r : Rest) (bs : List ℕ) → o ≡ Some r → IsDone (rest_over true r bs) → IsDone (option_and_then (λ next. rest_over true next bs) o)
on_rest o r bs e d = subst (λ (p : Option Rest). IsDone (option_and_then (λ next. rest_over true next bs) p)) (sym e) d

abbrev Goes : List ℕ → Type 0
Goes bs = (rest : Rest) (x y z : ℕ) → Fits rest x y z → Valid x y z bs → IsDone (rest_over true rest bs)

module _ (b : ℕ) (bs : List ℕ) (ih : Goes bs) where
  from_closed : (x y z : ℕ) → IsClosed x y z → Step x y z b → Valid y z b bs → IsDone (rest_over true (more 0) (b ∷ bs))
  from_closed x y z c (second p q r) v = absurd (omega (arith, c, q))
  from_closed x y z c (later (inl p) q r) v = absurd (omega (arith, c, p))
  from_closed x y z c (later (inr p) q r) v = absurd (omega (arith, c, p))
  from_closed x y z c (first p (inl l)) v = on_rest _ (more 0) bs (ascii b l) (ih (more 0) y z b (closed refl (omega (arith, c, l))) v)
  from_closed x y z c (first p (inr l)) v =
      elim (cases_lt b 0xc2) [
        | inl h ↦ absurd (no_lead y z b bs (omega (arith, c)) l (inl h) v)
        | inr h ↦ elim (cases_lt b 0xe0) [
          | inl m ↦ on_rest _ (more 1) bs (of_two b h m) (ih (more 1) y z b (pair refl (omega (arith, c)) (h, m)) v)
          | inr m ↦ elim (cases_lt b 0xf0) [
            | inl n ↦ on_rest _ (lead b 2) bs (of_three b m n) (ih (lead b 2) y z b (triple refl (omega (arith, c)) (m, n)) v)
            | inr n ↦ elim (cases_lt b 0xf5) [
              | inl k ↦ on_rest _ (lead b 3) bs (of_four b n k) (ih (lead b 3) y z b (quadruple refl (omega (arith, c)) (n, k)) v)
              | inr k ↦ absurd (no_lead y z b bs (omega (arith, c)) l (inr k) v)
            ]
          ]
        ]
      ]

  -- after a first byte of a character
  second_of : (x y z n : ℕ) → (x < 0xf0) × (y < 0xe0) → 0xc2 ≤ z → Step x y z b → Fits (more n) y z b → Valid y z b bs → IsDone (rest_over true (lead z (suc n)) (b ∷ bs))
  second_of x y z n c l (first p q) f v = absurd (omega (arith, p, l))
  second_of x y z n c l (later p q r) f v = absurd (omega (arith, q, l))
  second_of x y z n c l (second p q r) f v = on_rest _ (more n) bs (inside (least_after z) (most_after z) n b r.0 r.1) (ih (more n) y z b f v)

  -- after a later byte
  later_of : (n : ℕ) (y z : ℕ) → IsContinuation b → Fits (more n) y z b → Valid y z b bs → IsDone (rest_over true (more (suc n)) (b ∷ bs))
  later_of n y z c f v = on_rest _ (more n) bs (inside 0x80 0xbf n b c.0 (omega (arith, c))) (ih (more n) y z b f v)

-- the bounds of an ordinary second byte
plain_second : (z b : ℕ) → 0xc2 ≤ z → z < 0xe0 → least_after z ≤ b → b ≤ most_after z → IsContinuation b
plain_second z b l h p q =
    let k = least_is z in
    let m = most_is z in
    grind (arith, k, m)

second_continues : (z b : ℕ) → least_after z ≤ b → b ≤ most_after z → IsContinuation b
second_continues z b p q =
    let k = least_is z in
    let m = most_is z in
    grind (arith, k, m)

abbrev Start : Rest → List ℕ → Type 0
Start rest bs = IsDone (rest_over true rest bs)

goes : (bs : List ℕ) → Goes bs
goes [] rest x y z (closed e c) v = (rest, refl, ap (λ r. r.count) e)
goes [] rest x y z (pair e c l) v = absurd (omega (arith, l, v))
goes [] rest x y z (triple e c l) v = absurd (omega (arith, l, v))
goes [] rest x y z (quadruple e c l) v = absurd (omega (arith, l, v))
goes [] rest x y z (third e l c) v = absurd (omega (arith, l, v))
goes [] rest x y z (two e l c) v = absurd (omega (arith, l, v))
goes [] rest x y z (fourth e l c d) v = absurd (omega (arith, l, v))
goes (b ∷ bs) rest x y z (closed e c) v = subst (λ (r : Rest). Start r (b ∷ bs)) (sym e) (from_closed b bs (goes bs) x y z c v.0 v.1)
goes (b ∷ bs) rest x y z (pair e c l) v = subst (λ (r : Rest). Start r (b ∷ bs)) (sym e) (go (goes bs) v.0)
  where
    go : Goes bs → Step x y z b → Start (more 1) (b ∷ bs)
    go ih (first p q) = absurd (omega (arith, p, l))
    go ih (later p q r) = absurd (omega (arith, q, l))
    go ih (second p q r) =
        let k = plain_second z b l.0 l.1 r.0 r.1 in
        later_of b bs ih 0 y z k (closed refl (omega (arith, c, l, k))) v.1
goes (b ∷ bs) rest x y z (triple e c l) v = subst (λ (r : Rest). Start r (b ∷ bs)) (sym e) (go (goes bs) v.0)
  where
    go : Goes bs → Step x y z b → Start (lead z 2) (b ∷ bs)
    go ih (first p q) = absurd (omega (arith, p, l))
    go ih (later p q r) = absurd (omega (arith, q, l))
    go ih (second p q r) =
        let k = second_continues z b r.0 r.1 in
        second_of b bs ih x y z 1 c (omega (arith, l)) (second p q r) (third refl l k) v.1
goes (b ∷ bs) rest x y z (quadruple e c l) v = subst (λ (r : Rest). Start r (b ∷ bs)) (sym e) (go (goes bs) v.0)
  where
    go : Goes bs → Step x y z b → Start (lead z 3) (b ∷ bs)
    go ih (first p q) = absurd (omega (arith, p, l))
    go ih (later p q r) = absurd (omega (arith, q, l))
    go ih (second p q r) =
        let k = second_continues z b r.0 r.1 in
        second_of b bs ih x y z 2 c (omega (arith, l)) (second p q r) (two refl l k) v.1
goes (b ∷ bs) rest x y z (third e l c) v = subst (λ (r : Rest). Start r (b ∷ bs)) (sym e) (go (goes bs) v.0)
  where
    go : Goes bs → Step x y z b → Start (more 1) (b ∷ bs)
    go ih (first p q) = absurd (omega (arith, p, l))
    go ih (second p q r) = absurd (omega (arith, q, c))
    go ih (later p q r) = later_of b bs ih 0 y z r (closed refl (omega (arith, l, c, r))) v.1
goes (b ∷ bs) rest x y z (two e l c) v = subst (λ (r : Rest). Start r (b ∷ bs)) (sym e) (go (goes bs) v.0)
  where
    go : Goes bs → Step x y z b → Start (more 2) (b ∷ bs)
    go ih (first p q) = absurd (omega (arith, p, l))
    go ih (second p q r) = absurd (omega (arith, q, c))
    go ih (later p q r) = later_of b bs ih 1 y z r (fourth refl l.0 c r) v.1
goes (b ∷ bs) rest x y z (fourth e l c d) v = subst (λ (r : Rest). Start r (b ∷ bs)) (sym e) (go (goes bs) v.0)
  where
    go : Goes bs → Step x y z b → Start (more 1) (b ∷ bs)
    go ih (first p q) = absurd (omega (arith, p, l))
    go ih (second p q r) = absurd (omega (arith, q, d))
    go ih (later p q r) = later_of b bs ih 0 y z r (closed refl (omega (arith, c, d, r))) v.1

-- ---- Back to the rule on three bytes

not_done : (o : Option Rest) (bs : List ℕ) → o ≡ None → IsDone (option_and_then (λ next. rest_over true next bs) o) → ⊥
not_done o bs e d = go (subst (λ (p : Option Rest). IsDone (option_and_then (λ next. rest_over true next bs) p)) e d)
  where
    go : IsDone None → ⊥
    go (r, is, z) = cc

done_on : (o : Option Rest) (r : Rest) (bs : List ℕ) → o ≡ Some r → IsDone (option_and_then (λ next. rest_over true next bs) o) → Start r bs
done_on o r bs e d = subst (λ (p : Option Rest). IsDone (option_and_then (λ next. rest_over true next bs) p)) e d

abbrev Comes : List ℕ → Type 0
Comes bs = (rest : Rest) (x y z : ℕ) → Fits rest x y z → Start rest bs → Valid x y z bs

-- a state with bytes to come is not done
open_end : (rest : Rest) (s : Rest) → rest ≡ s → 0 < s.count → Start rest [] → ⊥
open_end rest s e l (r, is, z) =
    let same : rest ≡ r = same_Some _ _ is in
    let n : s.count ≡ 0 = ap (λ (q : Rest). q.count) (sym e ∙ same) ∙ z in
    omega (arith, n, l)

module _ (b : ℕ) (bs : List ℕ) (ih : Comes bs) where
  back_closed : (x y z : ℕ) → IsClosed x y z → Start (more 0) (b ∷ bs) → Valid x y z (b ∷ bs)
  back_closed x y z c d =
      elim (cases_lt b 0x80) [
        | inl l ↦ (first c (inl l), ih (more 0) y z b (closed refl (omega (arith, c, l))) (done_on _ (more 0) bs (ascii b l) d))
        | inr l ↦ elim (cases_lt b 0xc2) [
          | inl h ↦ absurd (not_done _ bs (stray b l h) d)
          | inr h ↦ elim (cases_lt b 0xe0) [
            | inl m ↦ (first c (inr (omega arith)), ih (more 1) y z b (pair refl (omega (arith, c)) (h, m)) (done_on _ (more 1) bs (of_two b h m) d))
            | inr m ↦ elim (cases_lt b 0xf0) [
              | inl n ↦ (first c (inr (omega arith)), ih (lead b 2) y z b (triple refl (omega (arith, c)) (m, n)) (done_on _ (lead b 2) bs (of_three b m n) d))
              | inr n ↦ elim (cases_lt b 0xf5) [
                | inl k ↦ (first c (inr (omega arith)), ih (lead b 3) y z b (quadruple refl (omega (arith, c)) (n, k)) (done_on _ (lead b 3) bs (of_four b n k) d))
                | inr k ↦ absurd (not_done _ bs (past b k) d)
              ]
            ]
          ]
        ]
      ]

  -- the byte lies within the bounds
  bounded : (low high n : ℕ) → Start (record { low = low; high = high; count = suc n }) (b ∷ bs) → (low ≤ b) × (b ≤ high) × Start (more n) bs
  bounded low high n d =
      elim (cases_lt b low) [
        | inl l ↦ absurd (not_done _ bs (outside_low low high n b l) d)
        | inr l ↦ elim (cases_lt high b) [
          | inl h ↦ absurd (not_done _ bs (outside_high low high n b l h) d)
          | inr h ↦ (l, h, done_on _ (more n) bs (inside low high n b l h) d)
        ]
      ]

comes : (bs : List ℕ) → Comes bs
comes [] rest x y z (closed e c) d = c
comes [] rest x y z (pair e c l) d = absurd (open_end rest (more 1) e (omega arith) d)
comes [] rest x y z (triple e c l) d = absurd (open_end rest (lead z 2) e (omega arith) d)
comes [] rest x y z (quadruple e c l) d = absurd (open_end rest (lead z 3) e (omega arith) d)
comes [] rest x y z (third e l c) d = absurd (open_end rest (more 1) e (omega arith) d)
comes [] rest x y z (two e l c) d = absurd (open_end rest (more 2) e (omega arith) d)
comes [] rest x y z (fourth e l c k) d = absurd (open_end rest (more 1) e (omega arith) d)
comes (b ∷ bs) rest x y z (closed e c) d = back_closed b bs (comes bs) x y z c (subst (λ (r : Rest). Start r (b ∷ bs)) e d)
comes (b ∷ bs) rest x y z (pair e c l) d =
    let w = bounded b bs (comes bs) 0x80 0xbf 0 (subst (λ (r : Rest). Start r (b ∷ bs)) e d) in
    let k = least_is z in
    let m = most_is z in
    let low : least_after z ≤ b = grind (arith, k, w.0, l) in
    let high : b ≤ most_after z = grind (arith, m, w.1, l) in
    (second c (omega (arith, l)) (low, high), comes bs (more 0) y z b (closed refl (omega (arith, c, l, w.1))) w.2)
comes (b ∷ bs) rest x y z (triple e c l) d =
    let w = bounded b bs (comes bs) (least_after z) (most_after z) 1 (subst (λ (r : Rest). Start r (b ∷ bs)) e d) in
    (second c (omega (arith, l)) (w.0, w.1), comes bs (more 1) y z b (third refl l (second_continues z b w.0 w.1)) w.2)
comes (b ∷ bs) rest x y z (quadruple e c l) d =
    let w = bounded b bs (comes bs) (least_after z) (most_after z) 2 (subst (λ (r : Rest). Start r (b ∷ bs)) e d) in
    (second c (omega (arith, l)) (w.0, w.1), comes bs (more 2) y z b (two refl l (second_continues z b w.0 w.1)) w.2)
comes (b ∷ bs) rest x y z (third e l c) d =
    let w = bounded b bs (comes bs) 0x80 0xbf 0 (subst (λ (r : Rest). Start r (b ∷ bs)) e d) in
    (later (inr l.0) c (omega (arith, w.0, w.1)), comes bs (more 0) y z b (closed refl (omega (arith, l, c, w.1))) w.2)
comes (b ∷ bs) rest x y z (two e l c) d =
    let w = bounded b bs (comes bs) 0x80 0xbf 1 (subst (λ (r : Rest). Start r (b ∷ bs)) e d) in
    (later (inr (omega (arith, l))) c (omega (arith, w.0, w.1)), comes bs (more 1) y z b (fourth refl l.0 c (omega (arith, w.0, w.1))) w.2)
comes (b ∷ bs) rest x y z (fourth e l c k) d =
    let w = bounded b bs (comes bs) 0x80 0xbf 0 (subst (λ (r : Rest). Start r (b ∷ bs)) e d) in
    (later (inl l) k (omega (arith, w.0, w.1)), comes bs (more 0) y z b (closed refl (omega (arith, c, k, w.1))) w.2)

-- ---- The theorem

pub utf8_is_done : (bs : List ℕ) → IsUtf8 bs → (rest : Rest) × (rest_over true (more 0) bs ≡ Some rest) × (rest.count ≡ 0)
utf8_is_done bs u = goes bs (more 0) 0 0 0 (closed refl (omega arith)) ((StepsThen-IsUtf8 bs).1 u)

pub done_is_utf8 : (bs : List ℕ) (rest : Rest) → rest_over true (more 0) bs ≡ Some rest → rest.count ≡ 0 → IsUtf8 bs
done_is_utf8 bs rest e z = (StepsThen-IsUtf8 bs).0 (comes bs (more 0) 0 0 0 (closed refl (omega arith)) (rest, e, z))

-- where inputs are any bytes, nothing has to follow
pub bytes_are_done : (rest : Rest) (bs : List ℕ) → rest_over false rest bs ≡ Some rest
bytes_are_done rest [] = refl
bytes_are_done rest (b ∷ bs) = bytes_are_done rest bs
