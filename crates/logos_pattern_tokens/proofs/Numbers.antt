-- The reading of a number, digit by digit.
use Rattle.std.proofs.Common.{◌≡◌, ℕ, ◌+◌, ◌*◌, ◌-◌, ◌<◌, ◌≤◌, true, false, cond, [], ◌∷◌, length, get_or, drop, Some, None, refl, sym, ap, ◌∙◌, arith, ltb}
use Rattle.std.proofs.lemmas.Bool.{le-ltb, lt-ltb}
use Rattle.logos_pattern_tokens.specs.Token.{Text, is_digit, number_from, fits}

grows : (n : ℕ) (t : Text) → n ≤ (number_from n t).0
grows n [] = omega arith
grows n (c ∷ t) =
    elim (is_digit c) as (λ b. n ≤ (cond b (number_from (n * 10 + (c - 48)) t) (n, c ∷ t)).0) [
      | true ↦ omega (arith, grows (n * 10 + (c - 48)) t)
      | false ↦ omega arith
    ]

large : (n : ℕ) (t : Text) → 4294967296 ≤ n → fits (number_from n t) ≡ None
large n t h =
    let big : ltb (number_from n t).0 4294967296 ≡ false = le-ltb _ _ (omega (arith, grows n t)) in
    rw big refl

goes : (n : ℕ) (t : Text) (c : ℕ) → 1 ≤ length t → c ≡ get_or t 0 c → is_digit c ≡ true → number_from n t ≡ number_from (n * 10 + (c - 48)) (drop 1 t)
goes n [] c long e digit = absurd (omega arith)
goes n (d ∷ t) c long e digit = rw (← e, digit) refl

-- one more digit makes the number too large
pub too_large : (n : ℕ) (t : Text) (c : ℕ) (whole : ℕ × Text) → number_from n t ≡ whole → 1 ≤ length t → c ≡ get_or t 0 c → is_digit c ≡ true → 4294967296 ≤ n * 10 + (c - 48) → None ≡ fits whole
too_large n t c whole same long e digit h = sym (ap fits (sym same ∙ goes n t c long e digit) ∙ large (n * 10 + (c - 48)) (drop 1 t) h)

fitting : (n : ℕ) (t : Text) → n < 4294967296 → fits (n, t) ≡ Some (n, t)
fitting n t h =
    let small : ltb n 4294967296 ≡ true = lt-ltb _ _ h in
    rw small refl

pub ends_there : (n : ℕ) (t : Text) (whole : ℕ × Text) → number_from n t ≡ whole → length t < 1 → n < 4294967296 → Some (n, t) ≡ fits whole
ends_there n [] whole same short h = sym (ap fits (sym same) ∙ fitting n [] h)
ends_there n (c ∷ t) whole same short h = absurd (omega arith)

pub stops_there : (n : ℕ) (t : Text) (c : ℕ) (whole : ℕ × Text) → number_from n t ≡ whole → 1 ≤ length t → c ≡ get_or t 0 c → is_digit c ≡ false → n < 4294967296 → Some (n, t) ≡ fits whole
stops_there n [] c whole same long e digit h = absurd (omega arith)
stops_there n (d ∷ t) c whole same long e digit h =
    let here : number_from n (d ∷ t) ≡ (n, d ∷ t) = rw (← e, digit) refl in
    sym (ap fits (sym same ∙ here) ∙ fitting n (d ∷ t) h)
