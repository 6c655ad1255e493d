-- Operators: operators that are read are written there, and operators that are written are read.
use Rattle.std.proofs.Common.{◌≡◌, ℕ, ◌+◌, ◌*◌, ◌-◌, ◌<◌, ◌≤◌, Bool, true, false, cond, eqb, ltb, leb, [], ◌∷◌, ◌++◌, length, Option, Some, None, refl, sym, ap, subst, ◌∙◌, arith, append_assoc, length-append, IfSome, leb-true, le-leb, ne_eqb}
use Rattle.std.proofs.lemmas.Bool.{eqb-true, eqb-false, ltb-true, lt-ltb, cond-true}
use Rattle.logos_pattern_tokens.specs.Token.{Text, Token, repeats, is_digit, lazy_at, number_from, fits, number_at, count_end, order_at, most_at, bounds_at, count_at}
use Rattle.logos_pattern_tokens.specs.Spelling.{AreDigits, value_from, Writes, Counts, star, plus, question, exactly, at_least, between, NotBegins, Takes, greedy, lazy}
use Rattle.logos_pattern_tokens.proofs.Picks.{IsTaken, pick, pick_is, bind_taken, outside}

-- ---- numbers

digits_from : (n : ℕ) (t : Text) → (ds : Text) × (t ≡ ds ++ (number_from n t).1) × AreDigits ds × ((number_from n t).0 ≡ value_from n ds)
digits_from n [] = ([], refl, tt, refl)
digits_from n (c ∷ t) = from (is_digit c) refl (digits_from (n * 10 + (c - 48)) t)
  where
    from : (b : Bool) → is_digit c ≡ b → ((ds : Text) × (t ≡ ds ++ (number_from (n * 10 + (c - 48)) t).1) × AreDigits ds × ((number_from (n * 10 + (c - 48)) t).0 ≡ value_from (n * 10 + (c - 48)) ds)) →
        let r : ℕ × Text = cond b (number_from (n * 10 + (c - 48)) t) (n, c ∷ t) in
        (ds : Text) × (c ∷ t ≡ ds ++ r.1) × AreDigits ds × (r.0 ≡ value_from n ds)
    from true e more = (c ∷ more.0, ap (λ (x : Text). c ∷ x) more.1, (e, more.2), more.3)
    from false e more = ([], refl, tt, refl)

-- the text does not begin with a digit
abbrev NoDigit : Text → Type 0
NoDigit [] = Unit {0}
NoDigit (c ∷ rest) = is_digit c ≡ false

digits_read : (n : ℕ) (ds rest : Text) → AreDigits ds → NoDigit rest → number_from n (ds ++ rest) ≡ (value_from n ds, rest)
digits_read n [] [] are ends = refl
digits_read n [] (c ∷ rest) are ends = rw ends refl
digits_read n (d ∷ ds) rest are ends = rw are.0 (digits_read (n * 10 + (d - 48)) ds rest are.1 ends)

number_rest : (n : ℕ) (t : Text) → length (number_from n t).1 ≤ length t
number_rest n [] = omega arith
number_rest n (c ∷ t) =
    elim (is_digit c) as (λ b. length (cond b (number_from (n * 10 + (c - 48)) t) (n, c ∷ t)).1 ≤ length (c ∷ t)) [
      | true ↦ omega (arith, number_rest (n * 10 + (c - 48)) t)
      | false ↦ omega arith
    ]

shorter_number : (c : ℕ) (t : Text) → is_digit c ≡ true → length (number_from 0 (c ∷ t)).1 < length (c ∷ t)
shorter_number c t e = rw e (omega (arith, number_rest (0 * 10 + (c - 48)) t))

number_taken : (t : Text) → IfSome (number_at t) (λ x. (ds : Text) × (t ≡ ds ++ x.1) × Writes ds x.0)
unfolding number_at
number_taken [] = tt
number_taken (c ∷ t) = from (is_digit c) refl
  where
    sized : (ds : Text) (r : ℕ × Text) → is_digit c ≡ true → number_from 0 (c ∷ t) ≡ r → c ∷ t ≡ ds ++ r.1 → AreDigits ds → r.0 ≡ value_from 0 ds → length r.1 < length (c ∷ t) → (b : Bool) → ltb r.0 4294967296 ≡ b →
        IfSome (cond b (Some r) None) (λ x. (es : Text) × (c ∷ t ≡ es ++ x.1) × Writes es x.0)
    sized ds r digit is e are v short true small =
        (ds, e, record { some_digit = (let len : length (c ∷ t) ≡ length ds + length r.1 = ap length e ∙ length-append ds r.1 in omega arith); digits_only = are; value = sym v; fits = ltb-true _ _ small })
    sized ds r digit is e are v short false small = tt

    from : (b : Bool) → is_digit c ≡ b → IfSome (cond b (fits (number_from 0 (c ∷ t))) None) (λ x. (ds : Text) × (c ∷ t ≡ ds ++ x.1) × Writes ds x.0)
    from true digit =
        let f = digits_from 0 (c ∷ t) in
        sized f.0 (number_from 0 (c ∷ t)) digit refl f.1 f.2 f.3 (shorter_number c t digit) _ refl
    from false digit = tt

-- ---- each value that is read is written there

pub lazy_taken : (s : Text) (least : ℕ) (most : Option ℕ) → Counts s least most → (rest : Text) → Takes (lazy_at least most rest).0 (s ++ rest) (lazy_at least most rest).1
unfolding lazy_at
lazy_taken s least most k [] = greedy s [] least most k tt
lazy_taken s least most k (c ∷ rest) = from (eqb c 63) refl
  where
    from : (b : Bool) → eqb c 63 ≡ b →
        let r : Token × Text = cond b (repeats (record { least = least; most = most; lazy = true }), rest) (repeats (record { least = least; most = most; lazy = false }), c ∷ rest) in Takes r.0 (s ++ c ∷ rest) r.1
    from true e = subst (λ x. Takes (repeats (record { least = least; most = most; lazy = true })) (s ++ x ∷ rest) rest) (sym (eqb-true c 63 e)) (lazy s rest least most k)
    from false e = greedy s (c ∷ rest) least most k (eqb-false c 63 e)

counted_taken : (front : Text) (least : ℕ) (most : Option ℕ) → Counts (front ++ 125 ∷ []) least most → (t : Text) → IsTaken Takes (front ++ t) (count_end least most t)
unfolding count_end
counted_taken front least most k [] = tt
counted_taken front least most k (c ∷ rest) =
    pick_is Takes c 125 (λ x. front ++ x ∷ rest) (Some (lazy_at least most rest)) None
    (subst (λ x. Takes (lazy_at least most rest).0 x (lazy_at least most rest).1) (append_assoc front (125 ∷ []) rest) (lazy_taken (front ++ 125 ∷ []) least most k rest))
    tt

most_taken : (ds : Text) (n : ℕ) → Writes ds n → (t : Text) → IsTaken Takes ((123 ∷ ds) ++ 44 ∷ t) (most_at n t)
unfolding most_at order_at
most_taken ds n w [] = tt
most_taken ds n w (c ∷ rest) =
    pick_is Takes c 125 (λ x. (123 ∷ ds) ++ 44 ∷ x ∷ rest) (Some (lazy_at n None rest)) _
    (subst (λ x. Takes (lazy_at n None rest).0 x (lazy_at n None rest).1) (append_assoc (123 ∷ ds) (44 ∷ 125 ∷ []) rest) (lazy_taken ((123 ∷ ds) ++ 44 ∷ 125 ∷ []) n None (at_least ds n w) rest))
    (bind_taken Takes _ (number_at (c ∷ rest)) (order_at n) _ (number_taken (c ∷ rest)) (λ x h.
    let front : Text = (123 ∷ ds) ++ 44 ∷ h.0 in
    let e : (123 ∷ ds) ++ 44 ∷ c ∷ rest ≡ front ++ x.1 = ap (λ (y : Text). (123 ∷ ds) ++ 44 ∷ y) h.1 ∙ sym (append_assoc (123 ∷ ds) (44 ∷ h.0) x.1) in
    subst (λ y. IsTaken Takes y (order_at n x)) (sym e)
    (pick Takes (front ++ x.1) (leb n x.0) (count_end n (Some x.0) x.1) None (λ le. counted_taken front n (Some x.0) (between ds h.0 n x.0 w h.2 (leb-true _ _ le)) x.1) (λ _. tt))))

bounds_taken : (ds : Text) (n : ℕ) → Writes ds n → (t : Text) → IsTaken Takes ((123 ∷ ds) ++ t) (bounds_at n t)
unfolding bounds_at
bounds_taken ds n w [] = tt
bounds_taken ds n w (c ∷ rest) =
    pick_is Takes c 44 (λ x. (123 ∷ ds) ++ x ∷ rest) (most_at n rest) (count_end n (Some n) (c ∷ rest)) (most_taken ds n w rest) (counted_taken (123 ∷ ds) n (Some n) (exactly ds n w) (c ∷ rest))

pub count_taken : (t : Text) → IsTaken Takes (123 ∷ t) (count_at t)
unfolding count_at
count_taken t =
    bind_taken Takes (123 ∷ t) (number_at t) (λ x. bounds_at x.0 x.1) _ (number_taken t) (λ x h.
    subst (λ y. IsTaken Takes (123 ∷ y) (bounds_at x.0 x.1)) (sym h.1) (bounds_taken h.0 x.0 h.2 x.1))

-- ---- each value that is written is read

pub lazy_no : (least : ℕ) (most : Option ℕ) (rest : Text) → NotBegins 63 rest → lazy_at least most rest ≡ (repeats (record { least = least; most = most; lazy = false }), rest)
unfolding lazy_at
lazy_no least most [] h = refl
lazy_no least most (c ∷ rest) h = let e : eqb c 63 ≡ false = ne_eqb c 63 h in rw e refl

pub lazy_yes : (least : ℕ) (most : Option ℕ) (rest : Text) → lazy_at least most (63 ∷ rest) ≡ (repeats (record { least = least; most = most; lazy = true }), rest)
unfolding lazy_at
lazy_yes least most rest = refl

number_head : (d : ℕ) (t : Text) → is_digit d ≡ true → number_at (d ∷ t) ≡ fits (number_from 0 (d ∷ t))
unfolding number_at
number_head d t e = cond-true (is_digit d) (fits (number_from 0 (d ∷ t))) None e

fitting : (n : ℕ) (t : Text) → n < 4294967296 → fits (n, t) ≡ Some (n, t)
fitting n t h = cond-true (ltb n 4294967296) (Some (n, t)) None (lt-ltb _ _ h)

number_is : (ds : Text) (n : ℕ) (rest : Text) → Writes ds n → NoDigit rest → number_at (ds ++ rest) ≡ Some (n, rest)
number_is [] n rest w ends = absurd (let h = w.some_digit in omega arith)
number_is (d ∷ ds) n rest w ends =
    number_head d (ds ++ rest) w.digits_only.0
    ∙ ap fits (digits_read 0 (d ∷ ds) rest w.digits_only ends ∙ ap (λ (k : ℕ). (k, rest)) w.value)
    ∙ fitting n rest w.fits

most_is : (ds : Text) (n m : ℕ) (rest : Text) → Writes ds m → n ≤ m → most_at n (ds ++ 125 ∷ rest) ≡ Some (lazy_at n (Some m) rest)
unfolding most_at order_at count_end
most_is [] n m rest w le = absurd (let h = w.some_digit in omega arith)
most_is (d ∷ ds) n m rest w le =
    let other : eqb d 125 ≡ false = outside is_digit d 125 w.digits_only.0 refl in
    let ordered : leb n m ≡ true = le-leb _ _ le in
    rw (other, number_is (d ∷ ds) m (125 ∷ rest) w refl, ordered) refl

count_exactly : (n : ℕ) (rest : Text) → bounds_at n (125 ∷ rest) ≡ Some (lazy_at n (Some n) rest)
unfolding bounds_at count_end
count_exactly n rest = refl

count_at_least : (n : ℕ) (rest : Text) → bounds_at n (44 ∷ 125 ∷ rest) ≡ Some (lazy_at n None rest)
unfolding bounds_at most_at
count_at_least n rest = refl

count_between : (n : ℕ) (rest : Text) → bounds_at n (44 ∷ rest) ≡ most_at n rest
unfolding bounds_at
count_between n rest = refl

count_is : (ds : Text) (n : ℕ) (rest : Text) → Writes ds n → NoDigit rest → count_at (ds ++ rest) ≡ bounds_at n rest
unfolding count_at
count_is ds n rest w ends = rw (number_is ds n rest w ends) refl

-- The operators by their front, as a reader of tokens reads them.
module _ (read : Text → Option (Token × Text))
    (star_is : (t : Text) → read (42 ∷ t) ≡ Some (lazy_at 0 None t))
    (plus_is : (t : Text) → read (43 ∷ t) ≡ Some (lazy_at 1 None t))
    (question_is : (t : Text) → read (63 ∷ t) ≡ Some (lazy_at 0 (Some 1) t))
    (brace_is : (t : Text) → read (123 ∷ t) ≡ count_at t) where
  pub counts_are : (s : Text) (least : ℕ) (most : Option ℕ) → Counts s least most → (rest : Text) → read (s ++ rest) ≡ Some (lazy_at least most rest)
  counts_are s least most star rest = star_is rest
  counts_are s least most plus rest = plus_is rest
  counts_are s least most question rest = question_is rest
  counts_are s least most (exactly ds n w) rest =
      ap read (append_assoc (123 ∷ ds) (125 ∷ []) rest) ∙ brace_is (ds ++ 125 ∷ rest) ∙ count_is ds n (125 ∷ rest) w refl ∙ count_exactly n rest
  counts_are s least most (at_least ds n w) rest =
      ap read (append_assoc (123 ∷ ds) (44 ∷ 125 ∷ []) rest) ∙ brace_is (ds ++ 44 ∷ 125 ∷ rest) ∙ count_is ds n (44 ∷ 125 ∷ rest) w refl ∙ count_at_least n rest
  counts_are s least most (between ds es n m w v le) rest =
      ap read (append_assoc ((123 ∷ ds) ++ 44 ∷ es) (125 ∷ []) rest ∙ append_assoc (123 ∷ ds) (44 ∷ es) (125 ∷ rest)) ∙ brace_is (ds ++ (44 ∷ es ++ 125 ∷ rest))
      ∙ count_is ds n (44 ∷ es ++ 125 ∷ rest) w refl ∙ count_between n (es ++ 125 ∷ rest) ∙ most_is es n m rest v le
