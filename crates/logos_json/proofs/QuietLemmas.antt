-- The printed text of quiet tokens has no control character.
use Rattle.std.proofs.Common.{◌≡◌, ◌≤◌, ◌<◌, ◌+◌, ◌/◌, ◌%◌, ◌^◌, ◌⊎◌, ◌==◌, ◌||◌, ℕ, List, [], ◌∷◌, ◌++◌, Bool, true, false, cond, decimal, inl, inr, sym, ◌∙◌, true≢false, refl, arith}
use Rattle.std.proofs.lemmas.Bool.{cases_eq, ltb-false, ltb-true, ne_eqb}
use Rattle.std.proofs.lemmas.Fmt.{decimal_by_steps}
use Rattle.std.specs.Prelude.{nat_lt}
use Rattle.std.specs.Char.{digit_char}
use Rattle.json.specs.Token.{Token, begin_object, end_object, begin_array, end_array, key, string, number, boolean, null, bad}
use Rattle.json.specs.Print.{ends, escape, escape_byte, escape_letter, print_from, separator, token_text}
use Rattle.logos_json.specs.Lines.{AreQuiet, HasNoControl, IsQuiet}

both : (one other : List ℕ) → HasNoControl one → HasNoControl other → HasNoControl (one ++ other)
both [] other a b = b
both (byte ∷ one) other a b = (a.0, both one other a.1 b)

-- The digits of a number.
pub quiet_decimal : (n : ℕ) → n < 2 ^ 64 → HasNoControl (decimal n)
quiet_decimal = decimal_by_steps (λ m ds. HasNoControl ds) (λ m l. (omega arith, tt)) (λ m ds l h. both ds _ h (omega arith, tt))

digit_quiet : (d : ℕ) → 32 ≤ digit_char d
digit_quiet d = go (nat_lt d 10)
  where
    go : (b : Bool) → 32 ≤ cond b (48 + d) (87 + d)
    go true = omega arith
    go false = omega arith

-- The letter of an escape, if there is one.
pick : (b : Bool) (y z : ℕ) → (b ≡ true → 32 ≤ y) → (0 < z → 32 ≤ z) → 0 < cond b y z → 32 ≤ cond b y z
pick true y z h k p = h refl
pick false y z h k p = k p

itself : (x : ℕ) → ((x == 34) || (x == 92)) ≡ true → 32 ≤ x
itself x e = go (cases_eq x 34) (cases_eq x 92)
  where
    go : (x ≡ 34) ⊎ (x ≡ 34 → ⊥) → (x ≡ 92) ⊎ (x ≡ 92 → ⊥) → 32 ≤ x
    go (inl q) b = omega (arith, q)
    go (inr q) (inl b) = omega (arith, b)
    go (inr q) (inr b) =
        let f : ((x == 34) || (x == 92)) ≡ false = rw (ne_eqb x 34 q, ne_eqb x 92 b) in
        absurd (true≢false (sym e ∙ f))

letter_quiet : (x : ℕ) → 0 < escape_letter x → 32 ≤ escape_letter x
letter_quiet x =
    pick _ x _ (itself x) (pick _ 98 _ (λ e. omega arith) (pick _ 102 _ (λ e. omega arith) (pick _ 110 _ (λ e. omega arith) (pick _ 114 _ (λ e. omega arith) (pick _ 116 0 (λ e. omega arith) (λ p. omega (arith, p)))))))

byte_quiet : (x : ℕ) → HasNoControl (escape_byte x)
unfolding escape_byte
byte_quiet x = go (nat_lt 0 (escape_letter x)) refl (nat_lt x 32) refl
  where
    go : (a : Bool) → nat_lt 0 (escape_letter x) ≡ a → (b : Bool) → nat_lt x 32 ≡ b →
        HasNoControl (cond a (92 ∷ escape_letter x ∷ []) (cond b (92 ∷ 117 ∷ 48 ∷ 48 ∷ digit_char (x / 16) ∷ digit_char (x % 16) ∷ []) (x ∷ [])))
    go true e b f = (omega arith, (letter_quiet x (ltb-true 0 (escape_letter x) e), tt))
    go false e true f = (omega arith, (omega arith, (omega arith, (omega arith, (digit_quiet (x / 16), (digit_quiet (x % 16), tt))))))
    go false e false f = (ltb-false x 32 f, tt)

escape_quiet : (text : List ℕ) → HasNoControl (escape text)
escape_quiet [] = tt
escape_quiet (x ∷ text) = both (escape_byte x) (escape text) (byte_quiet x) (escape_quiet text)

quoted_quiet : (text end : List ℕ) → HasNoControl end → HasNoControl (34 ∷ (escape text ++ 34 ∷ end))
quoted_quiet text end e = (omega arith, both (escape text) (34 ∷ end) (escape_quiet text) (omega arith, e))

token_quiet : (token : Token) → IsQuiet token → HasNoControl (token_text token)
token_quiet begin_object q = (omega arith, tt)
token_quiet end_object q = (omega arith, tt)
token_quiet begin_array q = (omega arith, tt)
token_quiet end_array q = (omega arith, tt)
token_quiet (key s) q = both (34 ∷ (escape s ++ 34 ∷ [])) (58 ∷ []) (quoted_quiet s [] tt) (omega arith, tt)
token_quiet (string s) q = quoted_quiet s [] tt
token_quiet (number s) q = q
token_quiet (boolean true) q = (omega arith, (omega arith, (omega arith, (omega arith, tt))))
token_quiet (boolean false) q = (omega arith, (omega arith, (omega arith, (omega arith, (omega arith, tt)))))
token_quiet null q = (omega arith, (omega arith, (omega arith, (omega arith, tt))))
token_quiet bad q = tt

comma_quiet : (b : Bool) → HasNoControl (cond b (44 ∷ []) [])
comma_quiet true = (omega arith, tt)
comma_quiet false = tt

pub quiet_print : (after_value : Bool) (tokens : List Token) → AreQuiet tokens → HasNoControl (print_from after_value tokens)
unfolding print_from
quiet_print after_value [] q = tt
quiet_print after_value (token ∷ tokens) q =
    both (separator after_value token) (token_text token ++ print_from (ends token) tokens) (comma_quiet _) (both (token_text token) (print_from (ends token) tokens) (token_quiet token q.0) (quiet_print (ends token) tokens q.1))
