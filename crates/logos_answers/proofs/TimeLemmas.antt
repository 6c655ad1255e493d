-- An answer without the line of the time.
use Rattle.std.proofs.Common.{◌≡◌, ◌≢◌, ◌≤◌, ◌<◌, ◌+◌, ◌-◌, ◌==◌, ◌&&◌, not, ℕ, zero, suc, Bool, true, false, List, [], ◌∷◌, codes, if◌then◌else◌, length, take, drop, slice_index, ◌⊎◌, inl, inr, subst, sym, ap, ◌∙◌, refl, arith}
use Rattle.std.proofs.lemmas.Bool.{ne_eqb}
use Rattle.std.specs.List.{starts_with}
use Rattle.logos_answers.specs.Expecting.{IsLineStart, is_one_line, is_time, timeless, timeless_from}

abbrev pub shows_time : List ℕ → Bool
shows_time text = starts_with (λ one other. one == other) text (codes "milliseconds: ")

-- LF does not occur from an offset on, except possibly at the end.
abbrev NoneFrom : List ℕ → ℕ → Type 0
NoneFrom text start = (k : ℕ) → start ≤ k → k + 1 < length text → slice_index text k ≢ 10

-- A line begins at the offset.
abbrev Begins : Bool → List ℕ → ℕ → Type 0
Begins begins text zero = begins ≡ true
Begins begins text (suc k) = slice_index text k ≡ 10

later : (b : ℕ) (text : List ℕ) (start : ℕ) → NoneFrom (b ∷ text) (suc start) → NoneFrom text start
later b text start h k l m = h (suc k) (omega (arith, l)) (omega (arith, m))

from_next : (b : ℕ) (text : List ℕ) → NoneFrom (b ∷ text) 0 → NoneFrom text 0
from_next b text h k l m = h (suc k) (omega arith) (omega (arith, m))

one_line : (text : List ℕ) → NoneFrom text 0 → is_one_line text ≡ true
one_line [] h = refl
one_line (b ∷ []) h = refl
one_line (b ∷ c ∷ rest) h =
    let first : (b == 10) ≡ false = ne_eqb b 10 (h 0 (omega arith) (omega arith)) in
    ap (λ x. not x && is_one_line (c ∷ rest)) first ∙ one_line (c ∷ rest) (from_next b (c ∷ rest) h)

same_line : (text : List ℕ) → NoneFrom text 0 → timeless_from false text ≡ text
same_line [] h = refl
same_line (b ∷ []) h = refl
same_line (b ∷ c ∷ rest) h =
    let first : (b == 10) ≡ false = ne_eqb b 10 (h 0 (omega arith) (omega arith)) in
    ap (λ x. b ∷ timeless_from x (c ∷ rest)) first ∙ ap (λ xs. b ∷ xs) (same_line (c ∷ rest) (from_next b (c ∷ rest) h))

and_false : (p : Bool) → (p && false) ≡ false
and_false true = refl
and_false false = refl

not_one : (text : List ℕ) (k : ℕ) → slice_index text k ≡ 10 → k + 1 < length text → is_one_line text ≡ false
not_one [] k e l = absurd (omega (arith, l))
not_one (b ∷ []) k e l = absurd (omega (arith, l))
not_one (b ∷ c ∷ rest) zero e l = ap (λ x. not (x == 10) && is_one_line (c ∷ rest)) e
not_one (b ∷ c ∷ rest) (suc k) e l = ap (λ x. not (b == 10) && x) (not_one (c ∷ rest) k e (omega (arith, l))) ∙ and_false (not (b == 10))

before : (b : ℕ) (rest : List ℕ) (k : ℕ) → slice_index (b ∷ rest) k ≡ 10 → Begins (b == 10) rest k
before b rest zero e = ap (λ x. x == 10) e
before b rest (suc k) e = e

module _ {A : Type 0} where
  first_case : (t : Bool) (none some all : A) → some ≡ all → (if true && (t && true) then none else some) ≡ (if t then none else all)
  first_case true none some all e = refl
  first_case false none some all e = e

  never : (p q : Bool) (none some : A) → (if p && (q && false) then none else some) ≡ some
  never true true none some = refl
  never true false none some = refl
  never false q none some = refl

cons_case : (t : Bool) (b : ℕ) (one other : List ℕ) → b ∷ (if t then one else other) ≡ (if t then b ∷ one else b ∷ other)
cons_case true b one other = refl
cons_case false b one other = refl

cut : (begins : Bool) (text : List ℕ) (start : ℕ) → start + 1 ≤ length text → NoneFrom text start → Begins begins text start →
    timeless_from begins text ≡ (if shows_time (drop start text) then take start text else text)
cut begins [] start l h e = absurd (omega (arith, l))
cut begins (b ∷ rest) zero l h e =
    let some = b ∷ timeless_from (b == 10) rest in
    let one = one_line (b ∷ rest) h in
    (λ i. if e i && (shows_time (b ∷ rest) && one i) then [] else some) ∙ first_case (shows_time (b ∷ rest)) [] some (b ∷ rest) (same_line (b ∷ rest) h)
cut begins (b ∷ rest) (suc k) l h e =
    let some = b ∷ timeless_from (b == 10) rest in
    let many = not_one (b ∷ rest) k e (omega (arith, l)) in
    (λ i. if begins && (shows_time (b ∷ rest) && many i) then [] else some)
    ∙ never begins (shows_time (b ∷ rest)) [] some
    ∙ ap (λ xs. b ∷ xs) (cut (b == 10) rest k (omega (arith, l)) (later b rest k h) (before b rest k e))
    ∙ cons_case (shows_time (drop k rest)) b (take k rest) rest

begins_at : (text : List ℕ) (at start : ℕ) → IsLineStart text at start → Begins true text start
begins_at text at zero is = refl
begins_at text at (suc k) is = go is.begins
  where
    go : (suc k ≡ 0) ⊎ ((n : ℕ) × (suc k ≡ n + 1) × (slice_index text n ≡ 10)) → slice_index text k ≡ 10
    go (inl none) = absurd (omega (arith, none))
    go (inr some) =
        let same : some.0 ≡ k = omega (arith, some.1) in
        subst (λ n. slice_index text n ≡ 10) same some.2

abbrev nothing : List ℕ
nothing = []

none_taken : (k : ℕ) → take k nothing ≡ nothing
none_taken zero = refl
none_taken (suc k) = refl

cut_at : (b : ℕ) (rest : List ℕ) (start : ℕ) → IsLineStart (b ∷ rest) (length (b ∷ rest) - 1) start →
    timeless (b ∷ rest) ≡ (if shows_time (drop start (b ∷ rest)) then take start (b ∷ rest) else b ∷ rest)
cut_at b rest start is =
    let none : NoneFrom (b ∷ rest) start = λ k l m. is.one k l (omega (arith, m)) in
    cut true (b ∷ rest) start (omega (arith, is.before)) none (begins_at (b ∷ rest) (length (b ∷ rest) - 1) start is)

-- The last line is the one with the time, or it is not.
pub time_cut : (answer : List ℕ) (start : ℕ) → IsLineStart answer (length answer - 1) start → shows_time (drop start answer) ≡ true → take start answer ≡ timeless answer
time_cut [] start is e = none_taken start
time_cut (b ∷ rest) start is e = sym (cut_at b rest start is ∙ ap (λ t. if t then take start (b ∷ rest) else b ∷ rest) e)

pub time_kept : (answer : List ℕ) (start : ℕ) → IsLineStart answer (length answer - 1) start → shows_time (drop start answer) ≡ false → answer ≡ timeless answer
time_kept [] start is e = refl
time_kept (b ∷ rest) start is e = sym (cut_at b rest start is ∙ ap (λ t. if t then take start (b ∷ rest) else b ∷ rest) e)
