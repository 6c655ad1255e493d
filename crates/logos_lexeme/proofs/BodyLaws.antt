-- Pieces of literals: each is one, and the digits that are read in them.
use Rattle.std.proofs.Common.{◌≡◌, ◌≢◌, ℕ, suc, zero, ◌+◌, ◌-◌, ◌*◌, ◌^◌, ◌<◌, ◌≤◌, ◌==◌, ◌||◌, inl, inr, Bool, true, false, Option, Some, None, MatchOption, List, [], ◌∷◌, ◌++◌, length, get_or, slice_range, filter, cond, refl, sym, ◌∙◌, ap, arith, add-one, add-zero, encode_utf8}
use Rattle.std.proofs.lemmas.Bool.{cases_lt, cases_order, cases_Bool, false≢true, ltb-true}
use Rattle.std.proofs.lemmas.List.{length_push, append-nil}
use Rattle.std.proofs.lemmas.List.Edits.{between_more, between_none}
use Rattle.std.proofs.lemmas.List.Elements.{filter-append}
use Rattle.std.proofs.lemmas.List.Sums.{fold_push}
use Rattle.std.proofs.Math.Nat.{pow-succ'}
use Rattle.std.specs.Char.{digit_value}
use Rattle.logos_lexeme.specs.LexemeRuns.{IsFirst}
use Rattle.logos_lexeme.specs.LiteralBodies.{is_simple, is_hex, hex_value, greatest_of, digits_between, BreaksLine, IsHexEscape, IsUnicodeEscape, IsEscape, simple, hex, unicode, Represents, plain, return, escape, continuation, IsPiece, IsCharacterPiece, unescaped, escaped}
use Rattle.logos_lexeme.specs.LiteralBodies.{bytes_of}
use Rattle.logos_lexeme.specs.inside.LiteralReads.{HasRead, ReadsByte, IsPlain, itself, break}
use Rattle.logos_lexeme.specs.declared.lexeme.bodies.Piece.{Piece}
use Rattle.logos_lexeme.specs.declared.lexeme.openings.Content.{Content}
use Rattle.logos_lexeme.proofs.CharacterLaws.{inside_from_byte}
use Rattle.logos_lexeme.proofs.RunLaws.{IsFirst-one}

-- a hexadecimal digit is inside
pub hex-inside : (bytes : List ℕ) (at : ℕ) → is_hex (get_or bytes at 0) ≡ true → at < length bytes
hex-inside bytes at h = elim (cases_lt 0 (get_or bytes at 0)) [
  | inl l ↦ inside_from_byte bytes at l
  | inr l ↦ let e : get_or bytes at 0 ≡ 0 = omega arith in absurd (false≢true (sym (ap is_hex e) ∙ h))
]

-- a brace is no digit
no_digit : (byte : ℕ) → byte ≡ 125 → (is_hex byte || (byte == 95)) ≡ true → ⊥
no_digit byte e h = false≢true (ap (λ b. is_hex b || (b == 95)) (sym e) ∙ h)

module _ (bytes : List ℕ) (at : ℕ) where
  pub brace-one : (a b : ℕ) → IsUnicodeEscape bytes at a → IsUnicodeEscape bytes at b → a ≡ b
  brace-one a b u v = elim (cases_order a b) [
    | inl e ↦ e
    | inr (inl l) ↦ absurd (no_digit (get_or bytes a 0) u.closes (v.digits a u.begun l))
    | inr (inr l) ↦ absurd (no_digit (get_or bytes b 0) v.closes (u.digits b v.begun l))
  ]

  -- an escape by its letter

  no_letter : (k : ℕ) → get_or bytes (at + 1) 0 ≡ k → is_simple k ≡ false → is_simple (get_or bytes (at + 1) 0) ≡ true → ⊥
  no_letter k e f h = false≢true (sym f ∙ ap is_simple (sym e) ∙ h)

  no_x : is_simple 120 ≡ false
  unfolding is_simple
  no_x = refl

  no_u : is_simple 117 ≡ false
  unfolding is_simple
  no_u = refl

  no_feed : is_simple 10 ≡ false
  unfolding is_simple
  no_feed = refl

  no_return : is_simple 13 ≡ false
  unfolding is_simple
  no_return = refl

  module _ (content : Content) where
    pub IsEscape-one : (m n : ℕ) (xs ys : List ℕ) → IsEscape content bytes at m xs → IsEscape content bytes at n ys → (m ≡ n) × (xs ≡ ys)
    IsEscape-one m n xs ys (simple e s v) (simple f t w) = (v ∙ sym w, refl)
    IsEscape-one m n xs ys (simple e s v) (hex h w) = absurd (no_letter 120 h.letter no_x s)
    IsEscape-one m n xs ys (simple e s v) (unicode c u w) = absurd (no_letter 117 u.letter no_u s)
    IsEscape-one m n xs ys (hex h v) (simple f t w) = absurd (no_letter 120 h.letter no_x t)
    IsEscape-one m n xs ys (hex h v) (hex i w) = (v ∙ sym w, refl)
    IsEscape-one m n xs ys (hex h v) (unicode c u w) = absurd (let e = h.letter in let f = u.letter in omega arith)
    IsEscape-one m n xs ys (unicode c u v) (simple f t w) = absurd (no_letter 117 u.letter no_u t)
    IsEscape-one m n xs ys (unicode c u v) (hex h w) = absurd (let e = h.letter in let f = u.letter in omega arith)
    IsEscape-one m n xs ys (unicode {brace = a} c u v) (unicode {brace = b} d t w) =
        let same = brace-one a b u t in (v ∙ ap (λ k. k + 1) same ∙ sym w, ap (λ k. encode_utf8 (hex_value (digits_between bytes (at + 3) k))) same)

    pub escape-backslash : (next : ℕ) (held : List ℕ) → IsEscape content bytes at next held → get_or bytes at 0 ≡ 92
    escape-backslash next held (simple e s v) = e
    escape-backslash next held (hex h v) = h.backslash
    escape-backslash next held (unicode c u v) = u.backslash

    pub escape-moves : (next : ℕ) (held : List ℕ) → IsEscape content bytes at next held → at < next
    escape-moves next held (simple e s v) = omega arith
    escape-moves next held (hex h v) = omega arith
    escape-moves next held (unicode c u v) = let b = u.begun in omega arith

    pub no_break : (next : ℕ) (held : List ℕ) → IsEscape content bytes at next held → BreaksLine bytes (at + 1) → ⊥
    no_break next held (simple e s v) (inl f) = no_letter 10 f no_feed s
    no_break next held (simple e s v) (inr f) = no_letter 13 f.0 no_return s
    no_break next held (hex h v) (inl f) = let e = h.letter in omega arith
    no_break next held (hex h v) (inr f) = let e = h.letter in let g = f.0 in omega arith
    no_break next held (unicode c u v) (inl f) = let e = u.letter in omega arith
    no_break next held (unicode c u v) (inr f) = let e = u.letter in let g = f.0 in omega arith

module _ (escapes : Bool) (content : Content) (bytes : List ℕ) where
  pub Represents-one : (at m n : ℕ) (xs ys : List ℕ) → Represents escapes content bytes at m xs → Represents escapes content bytes at n ys → (m ≡ n) × (xs ≡ ys)
  Represents-one at m n xs ys (plain e a v) (plain f b w) = (v ∙ sym w, refl)
  Represents-one at m n xs ys (plain e a v) (return r) = absurd (a.no_return r.0)
  Represents-one at m n xs ys (plain e a v) (escape t f) = absurd (e t (escape-backslash bytes at content n ys f))
  Represents-one at m n xs ys (plain e a v) (continuation t k) = absurd (e t k.backslash)
  Represents-one at m n xs ys (return r) (plain f b w) = absurd (b.no_return r.0)
  Represents-one at m n xs ys (return r) (return s) = (r.2 ∙ sym s.2, refl)
  Represents-one at m n xs ys (return r) (escape t f) = absurd (let e = escape-backslash bytes at content n ys f in let g = r.0 in omega arith)
  Represents-one at m n xs ys (return r) (continuation t k) = absurd (let e = k.backslash in let g = r.0 in omega arith)
  Represents-one at m n xs ys (escape t e) (plain f b w) = absurd (f t (escape-backslash bytes at content m xs e))
  Represents-one at m n xs ys (escape t e) (return r) = absurd (let f = escape-backslash bytes at content m xs e in let g = r.0 in omega arith)
  Represents-one at m n xs ys (escape t e) (escape u f) = IsEscape-one bytes at content m n xs ys e f
  Represents-one at m n xs ys (escape t e) (continuation u k) = absurd (no_break bytes at content m xs e k.breaks)
  Represents-one at m n xs ys (continuation t k) (plain f b w) = absurd (f t k.backslash)
  Represents-one at m n xs ys (continuation t k) (return r) = absurd (let e = k.backslash in let g = r.0 in omega arith)
  Represents-one at m n xs ys (continuation t k) (escape u f) = absurd (no_break bytes at content n ys f k.breaks)
  Represents-one at m n xs ys (continuation t k) (continuation u l) = (IsFirst-one k.blanks l.blanks, refl)

  pub Represents-moves : (at next : ℕ) (held : List ℕ) → Represents escapes content bytes at next held → at < next
  Represents-moves at next held (plain e a v) = omega arith
  Represents-moves at next held (return r) = omega (arith, r.2)
  Represents-moves at next held (escape t e) = escape-moves bytes at content next held e
  Represents-moves at next held (continuation t k) = let b = k.blanks.begun in omega arith

  pub piece-one : (at m n : ℕ) → IsPiece escapes content bytes at m → IsPiece escapes content bytes at n → m ≡ n
  piece-one at m n p q = (Represents-one at m n p.0 q.0 p.1 q.1).0

  pub piece-moves : (at next : ℕ) → IsPiece escapes content bytes at next → at < next
  piece-moves at next p = Represents-moves at next p.0 p.1

module _ (content : Content) (bytes : List ℕ) (at : ℕ) where
  pub character-one : (m n : ℕ) → IsCharacterPiece content bytes at m → IsCharacterPiece content bytes at n → m ≡ n
  character-one m n (unescaped e a v) (unescaped f b w) = v ∙ sym w
  character-one m n (unescaped e a v) (escaped {held} f) = absurd (e (escape-backslash bytes at content n held f))
  character-one m n (escaped {held} e) (unescaped f b w) = absurd (f (escape-backslash bytes at content m held e))
  character-one m n (escaped {held = xs} e) (escaped {held = ys} f) = (IsEscape-one bytes at content m n xs ys e f).0

  -- a piece of a string is an escape after a backslash that no line break follows, and represents
  -- itself otherwise

  module _ (escapes : Bool) where
    pub represents-escape : escapes ≡ true → get_or bytes at 0 ≡ 92 → (BreaksLine bytes (at + 1) → ⊥) → (next : ℕ) (held : List ℕ) → Represents escapes content bytes at next held → IsEscape content bytes at next held
    represents-escape t e b next held (plain f a v) = absurd (f t e)
    represents-escape t e b next held (return r) = absurd (let f = r.0 in omega arith)
    represents-escape t e b next held (escape u f) = f
    represents-escape t e b next held (continuation u k) = absurd (b k.breaks)

    pub holds_at_backslash : (found : Option (Piece × ℕ)) → escapes ≡ true → get_or bytes at 0 ≡ 92 → (BreaksLine bytes (at + 1) → ⊥) →
        MatchOption found ((next : ℕ) (held : List ℕ) → IsEscape content bytes at next held → ⊥) (λ f. IsEscape content bytes at f.1 (bytes_of f.0)) →
        MatchOption found ((next : ℕ) (held : List ℕ) → Represents escapes content bytes at next held → ⊥) (λ f. Represents escapes content bytes at f.1 (bytes_of f.0))
    holds_at_backslash None t e b h = λ next held s. h next held (represents-escape t e b next held s)
    holds_at_backslash (Some f) t e b h = escape t h

    pub represents-plain : (escapes ≡ true → get_or bytes at 0 ≢ 92) → (next : ℕ) (held : List ℕ) → Represents escapes content bytes at next held → IsPlain content bytes at next held
    represents-plain f next held (plain g a v) = itself a v
    represents-plain f next held (return r) = break r
    represents-plain f next held (escape t e) = absurd (f t (escape-backslash bytes at content next held e))
    represents-plain f next held (continuation t k) = absurd (f t k.backslash)

    pub plain-represents : (escapes ≡ true → get_or bytes at 0 ≢ 92) → (next : ℕ) (held : List ℕ) → IsPlain content bytes at next held → Represents escapes content bytes at next held
    plain-represents f next held (itself a v) = plain f a v
    plain-represents f next held (break r) = return r

    pub holds_at_other : (found : Option (Piece × ℕ)) → (escapes ≡ true → get_or bytes at 0 ≢ 92) →
        MatchOption found ((next : ℕ) (held : List ℕ) → IsPlain content bytes at next held → ⊥) (λ f. IsPlain content bytes at f.1 (bytes_of f.0)) →
        MatchOption found ((next : ℕ) (held : List ℕ) → Represents escapes content bytes at next held → ⊥) (λ f. Represents escapes content bytes at f.1 (bytes_of f.0))
    holds_at_other None f h = λ next held s. h next held (represents-plain f next held s)
    holds_at_other (Some g) f h = plain-represents f g.1 (bytes_of g.0) h

-- digits that are read

pub small_value : (count value : ℕ) → count < 6 → value < 16 ^ count → value < 16 ^ 5
small_value zero value h l = omega arith
small_value (suc zero) value h l = omega arith
small_value (suc (suc zero)) value h l = omega arith
small_value (suc (suc (suc zero))) value h l = omega arith
small_value (suc (suc (suc (suc zero)))) value h l = omega arith
small_value (suc (suc (suc (suc (suc zero))))) value h l = l
small_value (suc (suc (suc (suc (suc (suc n)))))) value h l = absurd (omega arith)

more_digits : (bytes : List ℕ) (from at : ℕ) → from ≤ at → at < length bytes → digits_between bytes from (at + 1) ≡ digits_between bytes from at ++ filter is_hex (get_or bytes at 0 ∷ [])
more_digits bytes from at le l = ap (λ xs. filter is_hex xs) (between_more bytes from at 0 le l) ∙ filter-append is_hex (slice_range bytes from at) (get_or bytes at 0 ∷ [])

one_digit : (byte : ℕ) (ds : List ℕ) (b : Bool) → is_hex byte ≡ b → ds ++ filter is_hex (byte ∷ []) ≡ ds ++ cond b (byte ∷ []) []
one_digit byte ds b e = rw e refl

module _ (bytes : List ℕ) (from at : ℕ) (le : from ≤ at) (l : at < length bytes) where
  digits-other : is_hex (get_or bytes at 0) ≡ false → digits_between bytes from (at + 1) ≡ digits_between bytes from at
  digits-other e = more_digits bytes from at le l ∙ one_digit (get_or bytes at 0) (digits_between bytes from at) false e ∙ append-nil (digits_between bytes from at)

  digits-digit : is_hex (get_or bytes at 0) ≡ true → digits_between bytes from (at + 1) ≡ digits_between bytes from at ++ get_or bytes at 0 ∷ []
  digits-digit e = more_digits bytes from at le l ∙ one_digit (get_or bytes at 0) (digits_between bytes from at) true e

  pub HasRead-more : (count value next_count next_value : ℕ) → HasRead (digits_between bytes from at) count value → ReadsByte (get_or bytes at 0) count value next_count next_value → HasRead (digits_between bytes from (at + 1)) next_count next_value
  HasRead-more count value next_count next_value h (inl (e, f, g)) = rw (digits-other e, f, g) h
  HasRead-more count value next_count next_value h (inr (e, few, f, g)) =
      let d = digits-digit e in
      let digit : digit_value (get_or bytes at 0) < 16 = ltb-true (digit_value (get_or bytes at 0)) 16 e in
      record {
        counted = f ∙ ap (λ n. n + 1) h.counted ∙ sym (length_push (digits_between bytes from at) (get_or bytes at 0)) ∙ ap length (sym d);
        few = omega arith;
        valued = g ∙ ap (λ n. n * 16 + digit_value (get_or bytes at 0)) h.valued ∙ sym (fold_push (λ n c. n * 16 + digit_value c) 0 (digits_between bytes from at) (get_or bytes at 0)) ∙ ap hex_value (sym d);
        small = let small = h.small in rw (f, add-one, pow-succ') (omega arith);
      }

  digits-grow : length (digits_between bytes from at) ≤ length (digits_between bytes from (at + 1))
  digits-grow = elim (cases_Bool (is_hex (get_or bytes at 0))) [
    | inl e ↦ omega (arith, ap length (digits-digit e), length_push (digits_between bytes from at) (get_or bytes at 0))
    | inr e ↦ omega (arith, ap length (digits-other e))
  ]

pub HasRead-none : (bytes : List ℕ) (from : ℕ) → HasRead (digits_between bytes from from) 0 0
HasRead-none bytes from =
    let e : digits_between bytes from from ≡ [] = ap (λ xs. filter is_hex xs) (between_none bytes from) in
    record { counted = rw e refl; few = omega arith; valued = rw e refl; small = omega arith }

digits-reach : (bytes : List ℕ) (from at n : ℕ) → from ≤ at → at + n ≤ length bytes → length (digits_between bytes from at) ≤ length (digits_between bytes from (at + n))
digits-reach bytes from at zero le within = rw add-zero (omega arith)
digits-reach bytes from at (suc n) le within =
    let k : at + suc n ≡ at + n + 1 = omega arith in
    rw k (omega (arith, digits-reach bytes from at n le (omega arith), digits-grow bytes from (at + n) (omega arith) (omega arith)))

-- a seventh digit is too much
pub too_many : (bytes : List ℕ) (from at to count value : ℕ) → from ≤ at → at < to → to ≤ length bytes → HasRead (digits_between bytes from at) count value → is_hex (get_or bytes at 0) ≡ true → 6 ≤ count → 6 < length (digits_between bytes from to)
too_many bytes from at to count value le l within h e many =
    let k : at + 1 + (to - (at + 1)) ≡ to = omega arith in
    let grown : length (digits_between bytes from (at + 1)) ≤ length (digits_between bytes from to) = rw k at (digits-reach bytes from (at + 1) (to - (at + 1)) (omega arith) (omega arith)) in
    omega (arith, grown, h.counted, ap length (digits-digit bytes from at le (omega arith) e), length_push (digits_between bytes from at) (get_or bytes at 0))

-- two digits

two_between : (bytes : List ℕ) (at to : ℕ) → to ≡ at + 2 → to ≤ length bytes → slice_range bytes at to ≡ get_or bytes at 0 ∷ get_or bytes (at + 1) 0 ∷ []
two_between bytes at to e within =
    let k : to ≡ at + 1 + 1 = omega arith in
    rw k (between_more bytes at (at + 1) 0 (omega arith) (omega arith) ∙ ap (λ xs. xs ++ get_or bytes (at + 1) 0 ∷ []) (between_more bytes at at 0 (omega arith) (omega arith) ∙ ap (λ xs. xs ++ get_or bytes at 0 ∷ []) (between_none bytes at)))

module _ (bytes : List ℕ) (at : ℕ) (first : is_hex (get_or bytes (at + 2) 0) ≡ true) (second : is_hex (get_or bytes (at + 3) 0) ≡ true) where
  two_value : hex_value (slice_range bytes (at + 2) (at + 4)) ≡ digit_value (get_or bytes (at + 2) 0) * 16 + digit_value (get_or bytes (at + 3) 0)
  two_value =
      let inside = hex-inside bytes (at + 3) second in
      let k : at + 2 + 1 ≡ at + 3 = omega arith in
      ap hex_value (two_between bytes (at + 2) (at + 4) (omega arith) (omega arith)) ∙ rw k (omega arith)

  pub IsHexEscape-from : (content : Content) → get_or bytes at 0 ≡ 92 → get_or bytes (at + 1) 0 ≡ 120 → digit_value (get_or bytes (at + 2) 0) * 16 + digit_value (get_or bytes (at + 3) 0) ≤ greatest_of content → IsHexEscape content bytes at
  IsHexEscape-from content e f h = record { backslash = e; letter = f; first = first; second = second; small = rw two_value h }

  pub IsHexEscape-small : (content : Content) → IsHexEscape content bytes at → digit_value (get_or bytes (at + 2) 0) * 16 + digit_value (get_or bytes (at + 3) 0) ≤ greatest_of content
  IsHexEscape-small content h = rw (← two_value) h.small

-- two digits write a byte
pub hex-written : (content : Content) (bytes : List ℕ) (at : ℕ) → get_or bytes at 0 ≡ 92 → get_or bytes (at + 1) 0 ≡ 120 → (x y first second greatest : ℕ) → x ≡ get_or bytes (at + 2) 0 → y ≡ get_or bytes (at + 3) 0 → is_hex x ≡ true → first ≡ digit_value x → is_hex y ≡ true → second ≡ digit_value y → greatest ≡ greatest_of content → first * 16 + second ≤ greatest →
    IsHexEscape content bytes at × (first * 16 + second ≡ hex_value (slice_range bytes (at + 2) (at + 4)))
hex-written content bytes at backslash letter x y first second greatest e f hx ex hy ey eg le =
    let one : is_hex (get_or bytes (at + 2) 0) ≡ true = ap is_hex (sym e) ∙ hx in
    let two : is_hex (get_or bytes (at + 3) 0) ≡ true = ap is_hex (sym f) ∙ hy in
    let sum : first * 16 + second ≡ digit_value (get_or bytes (at + 2) 0) * 16 + digit_value (get_or bytes (at + 3) 0) = omega (arith, ex, ey, ap digit_value e, ap digit_value f) in
    (IsHexEscape-from bytes at one two content backslash letter (omega (arith, le, eg, sum)), sum ∙ sym (two_value bytes at one two))

-- no escape by another letter
module _ (content : Content) (bytes : List ℕ) (at : ℕ) where
  pub no_hex : get_or bytes (at + 1) 0 ≡ 120 → (IsHexEscape content bytes at → ⊥) → (next : ℕ) (held : List ℕ) → IsEscape content bytes at next held → ⊥
  no_hex e other next held (simple f s v) = no_letter bytes at 120 e (no_x bytes at) s
  no_hex e other next held (hex h v) = other h
  no_hex e other next held (unicode c u v) = let f = u.letter in omega arith

  pub no_unicode : get_or bytes (at + 1) 0 ≡ 117 → ((brace : ℕ) → IsUnicodeEscape bytes at brace → ⊥) → (next : ℕ) (held : List ℕ) → IsEscape content bytes at next held → ⊥
  no_unicode e other next held (simple f s v) = no_letter bytes at 117 e (no_u bytes at) s
  no_unicode e other next held (hex h v) = let f = h.letter in omega arith
  no_unicode e other next held (unicode {brace} c u v) = other brace u

-- where digits end that no brace follows, no brace follows digits
pub no_brace : (bytes : List ℕ) (at end : ℕ) → IsFirst (λ i. (is_hex (get_or bytes i 0) || (get_or bytes i 0 == 95)) ≡ false) (at + 3) end → get_or bytes end 0 ≢ 125 → (brace : ℕ) → IsUnicodeEscape bytes at brace → ⊥
no_brace bytes at end f other brace u = elim (cases_order end brace) [
  | inl e ↦ other (rw e u.closes)
  | inr (inl l) ↦ false≢true (sym f.holds ∙ u.digits end f.begun l)
  | inr (inr l) ↦ f.first brace u.begun l (rw u.closes refl)
]
