-- The values of strings, piece by piece.
use Rattle.std.proofs.Common.{◌≡◌, ◌≢◌, ℕ, ◌+◌, ◌-◌, ◌<◌, ◌≤◌, ◌⊎◌, inl, inr, Bool, true, false, List, [], ◌∷◌, ◌++◌, length, get_or, slice_range, refl, sym, ◌∙◌, ap, subst, arith, append_assoc, encode_utf8, IsUtf8, Option, Some, None, string_bytes}
use Rattle.std.proofs.lemmas.List.{append-nil}
use Rattle.std.proofs.lemmas.List.Edits.{between_more, between_none}
use Rattle.std.specs.Str.{IsCharBoundary}
use Rattle.std.specs.Char.{len_utf8}
use Rattle.std.proofs.lemmas.Bool.{cases_lt, false≢true, true_from_ne_false}
use Rattle.std.proofs.lemmas.Bool.Decides.{nat_tests}
use Rattle.std.proofs.lemmas.Str.{encode_ascii, length-encode}
use Rattle.std.proofs.Math.Nat.{eq-or-lt_of_le}
use Rattle.logos_lexeme.specs.LiteralBodies.{is_simple, simple_value, is_hex, hex_value, digits_between, is_blank, IsEscape, simple, hex, unicode, IsContinuation, Represents, plain, return, escape, continuation, Holds, none, more}
use Rattle.logos_lexeme.specs.LiteralBodies.{bytes_of}
use Rattle.logos_token.specs.inside.ValueReads.{IsRest, IsAscii}
use Rattle.logos_lexeme.specs.declared.lexeme.bodies.Piece.{Piece}
use Rattle.logos_lexeme.specs.declared.lexeme.bodies.Piece.TheVariants.{Nothing, Byte, Character}
use Rattle.logos_lexeme.specs.declared.lexeme.openings.Content.{Content}
use Rattle.logos_lexeme.specs.declared.lexeme.openings.Content.TheVariants.{Text, Text as Characters, Bytes as Octets}
use Rattle.logos_lexeme.specs.declared.lexeme.openings.Opening.{Opening}
use Rattle.logos_token.specs.declared.token.value.LiteralValue.{LiteralValue}
use Rattle.logos_token.specs.declared.token.value.LiteralValue.TheVariants.{Text as TextValue, Bytes as BytesValue}
use Rattle.logos_lexeme.specs.LexemeOpenings.{opening_at}
use Rattle.logos_lexeme.specs.LexemeEnds.{Ends, body_of}
use Rattle.logos_lexeme.specs.declared.lexeme.openings.Opening.TheVariants.{Space, Line, Block, Word, Number, Quotes, Raw, Apostrophes, Character as Apostrophe, Single, Nothing as NoOpening}
use Rattle.logos_token.specs.LiteralValues.{HoldsIn, BeginsWithString, IsValue}
use Rattle.logos_token.specs.inside.ValueReads.{IsHeld}
use Rattle.logos_lexeme.proofs.EndLaws.{Ends-one}
use Rattle.logos_lexeme.proofs.CharacterLaws.{boundary-after}
use Rattle.logos_lexeme.proofs.BodyLaws.{Represents-one, Represents-moves}

module _ (escapes : Bool) (content : Content) (bytes : List ℕ) where
  pub Holds-le : (at to : ℕ) (held : List ℕ) → Holds escapes content bytes at to held → at ≤ to
  Holds-le at to held none = omega arith
  Holds-le at to held (more {mid = mid} {first = stated} {rest = rest} s h e) = omega (arith, Represents-moves escapes content bytes at mid stated s, Holds-le mid to rest h)

  -- the first piece is the one at this offset
  first_piece : (at next to : ℕ) (stated held : List ℕ) → Represents escapes content bytes at next stated → at < to → Holds escapes content bytes at to held → (rest : List ℕ) × Holds escapes content bytes next to rest
  first_piece at next to stated held s ahead none = absurd (omega arith)
  first_piece at next to stated held s ahead (more {mid = mid} {first = other} {rest = rest} t h e) =
      (rest, subst (λ m. Holds escapes content bytes m to rest) (Represents-one escapes content bytes at mid next other stated t s).0 h)

  -- a span holds the same bytes, however it is cut
  Holds-one : (at to end : ℕ) (xs ys : List ℕ) → Holds escapes content bytes at to xs → Holds escapes content bytes at end ys → to ≡ end → xs ≡ ys
  Holds-one at to end xs ys none none d = refl
  Holds-one at to end xs ys none (more {mid = mid} {first = stated} {rest = rest} s h e) d = absurd (omega (arith, Represents-moves escapes content bytes at mid stated s, Holds-le mid end rest h))
  Holds-one at to end xs ys (more {mid = mid} {first = stated} {rest = rest} s h e) none d = absurd (omega (arith, Represents-moves escapes content bytes at mid stated s, Holds-le mid to rest h))
  Holds-one at to end xs ys (more {mid = mid} {first = stated} {rest = rest} s h e) (more {mid = next} {first = other} {rest = others} t i f) d =
      let same = Represents-one escapes content bytes at mid next stated other s t in
      let rests = Holds-one mid to end rest others h (subst (λ n. Holds escapes content bytes n end others) (sym same.0) i) d in
      e ∙ ap (λ ws. ws ++ rest) same.1 ∙ ap (λ ws. other ++ ws) rests ∙ sym f

  pub rest-none : (at to : ℕ) → IsRest escapes content bytes at at to []
  rest-none at to = record { on = λ held h. h; back = λ held h. (held, h) }

  pub rest-piece : (at next to : ℕ) (stated : List ℕ) → Represents escapes content bytes at next stated → at < to → IsRest escapes content bytes at next to stated
  rest-piece at next to stated s ahead = record {
    on = λ held h. more s h refl;
    back = λ held h. first_piece at next to stated held s ahead h;
  }

  pub rest-join : (from at next to : ℕ) (stated new : List ℕ) → IsRest escapes content bytes from at to stated → IsRest escapes content bytes at next to new → IsRest escapes content bytes from next to (stated ++ new)
  rest-join from at next to stated new r s = record {
    on = λ held h. rw append_assoc (r.on (new ++ held) (s.on held h));
    back = λ held h. let t = r.back held h in s.back t.0 t.1;
  }

  pub rest-end : (from at to : ℕ) (stated : List ℕ) → at ≡ to → IsRest escapes content bytes from at to stated → Holds escapes content bytes from to stated
  rest-end from at to stated e r = rw append-nil at (r.on [] (subst (λ n. Holds escapes content bytes at n []) e none))

  pub rest-past : (from at to : ℕ) (stated : List ℕ) → to < at → IsRest escapes content bytes from at to stated → (held : List ℕ) → Holds escapes content bytes from to held → ⊥
  rest-past from at to stated ahead r held h = let t = r.back held h in omega (arith, Holds-le at to t.0 t.1)

  no_piece : (at to : ℕ) (held : List ℕ) → at < to → ((next : ℕ) (stated : List ℕ) → Represents escapes content bytes at next stated → ⊥) → Holds escapes content bytes at to held → ⊥
  no_piece at to held ahead other none = omega arith
  no_piece at to held ahead other (more {mid = mid} {first = stated} s h e) = other mid stated s

  pub rest-stuck : (at to : ℕ) → at < to → ((next : ℕ) (stated : List ℕ) → Represents escapes content bytes at next stated → ⊥) → (held : List ℕ) → Holds escapes content bytes at to held → ⊥
  rest-stuck at to ahead other held h = no_piece at to held ahead other h

  pub rest-refuted : (from at to : ℕ) (stated : List ℕ) → IsRest escapes content bytes from at to stated → ((held : List ℕ) → Holds escapes content bytes at to held → ⊥) → (held : List ℕ) → Holds escapes content bytes from to held → ⊥
  rest-refuted from at to stated r other held h = let t = r.back held h in other t.0 t.1

-- a run of bytes that represent themselves

pub rest-plain : (escapes : Bool) (bytes : List ℕ) (from end to : ℕ) → from ≤ end → end < to → to ≤ length bytes → get_or bytes end 0 ≢ 13 → (escapes ≡ true → get_or bytes end 0 ≢ 92) →
    IsRest escapes Text bytes from end to (slice_range bytes from end) → IsRest escapes Text bytes from (end + 1) to (slice_range bytes from (end + 1))
rest-plain escapes bytes from end to begun ahead within no_return no_escape r =
    rw (between_more bytes from end 0 begun (omega arith))
    (rest-join escapes Text bytes from end (end + 1) to (slice_range bytes from end) (get_or bytes end 0 ∷ []) r
    (rest-piece escapes Text bytes end (end + 1) to (get_or bytes end 0 ∷ []) (plain no_escape (record { no_return = no_return; ascii = λ e. absurd (cc) }) refl) ahead))

pub rest-start : (escapes : Bool) (bytes : List ℕ) (from to : ℕ) → IsRest escapes Text bytes from from to (slice_range bytes from from)
rest-start escapes bytes from to = rw (between_none bytes from) (rest-none escapes Text bytes from to)

-- the bytes of escapes are ASCII

simple_ascii : (letter : ℕ) → is_simple letter ≡ true → (0 < letter) × (letter < 128)
unfolding is_simple
simple_ascii letter e = (grind (arith, nat_tests), grind (arith, nat_tests))

simple_small : (letter : ℕ) → letter < 128 → simple_value letter < 128
unfolding simple_value
simple_small letter l = grind (arith, nat_tests)

hex_ascii : (digit : ℕ) → is_hex digit ≡ true → (0 < digit) × (digit < 128)
hex_ascii digit e = (grind (arith, nat_tests), grind (arith, nat_tests))

blank_ascii : (c : ℕ) → is_blank c ≡ true → (0 < c) × (c < 128)
unfolding is_blank
blank_ascii c e = (grind (arith, nat_tests), grind (arith, nat_tests))

feed_blank : is_blank 10 ≡ true
unfolding is_blank
feed_blank = refl

return_blank : is_blank 13 ≡ true
unfolding is_blank
return_blank = refl

wide_char : (c : ℕ) → 128 ≤ c → len_utf8 c ≡ 1 → ⊥
wide_char c l f = grind (arith, nat_tests)

-- a character of one byte is that byte
one_byte : (c x : ℕ) → encode_utf8 c ≡ x ∷ [] → x < 128
one_byte c x e = elim (cases_lt c 128) [
  | inl l ↦ let f : c ∷ [] ≡ x ∷ [] = sym (encode_ascii c l) ∙ e in let g : c ≡ x = cc in omega arith
  | inr l ↦ absurd (let f : len_utf8 c ≡ 1 = sym (length-encode c) ∙ ap length e in wide_char c l f)
]

module _ (escapes : Bool) (bytes : List ℕ) (at next : ℕ) where
  escape_small : (held : List ℕ) → IsEscape Text bytes at next held → (x : ℕ) → held ≡ x ∷ [] → x < 128
  escape_small held (simple e s v) x f = let k : simple_value (get_or bytes (at + 1) 0) ≡ x = cc in omega (arith, simple_small (get_or bytes (at + 1) 0) (simple_ascii (get_or bytes (at + 1) 0) s).1)
  escape_small held (hex h v) x f = let k : hex_value (slice_range bytes (at + 2) (at + 4)) ≡ x = cc in omega (arith, h.small)
  escape_small held (unicode {brace} c u v) x f = one_byte (hex_value (digits_between bytes (at + 3) brace)) x f

  stated_small : (held : List ℕ) → Represents escapes Text bytes at next held → get_or bytes at 0 < 128 → (x : ℕ) → held ≡ x ∷ [] → x < 128
  stated_small held (plain e a v) l x f = let k : get_or bytes at 0 ≡ x = cc in omega arith
  stated_small held (return r) l x f = let k : ◌≡◌ {A = ℕ} 10 x = cc in omega arith
  stated_small held (escape t e) l x f = escape_small held e x f
  stated_small held (continuation t k) l x f = absurd (cc)

  pub ascii_piece : (piece : Piece) → Represents escapes Text bytes at next (bytes_of piece) → get_or bytes at 0 < 128 → IsAscii piece
  ascii_piece Nothing s l = tt
  ascii_piece (Byte b) s l = stated_small (b ∷ []) s l b refl
  ascii_piece (Character c) s l = tt

module _ (escapes : Bool) (bytes : List ℕ) (utf8 : IsUtf8 bytes) (at next : ℕ) where
  escape-boundary : (held : List ℕ) → IsEscape Text bytes at next held → IsCharBoundary bytes next
  escape-boundary held (simple e s v) = let a = simple_ascii (get_or bytes (at + 1) 0) s in boundary-after bytes utf8 (at + 1) next (omega (arith, a.0)) (omega (arith, a.1)) (omega arith)
  escape-boundary held (hex h v) = let a = hex_ascii (get_or bytes (at + 3) 0) h.second in boundary-after bytes utf8 (at + 3) next (omega (arith, a.0)) (omega (arith, a.1)) (omega arith)
  escape-boundary held (unicode {brace} c u v) = let e = u.closes in boundary-after bytes utf8 brace next (omega arith) (omega arith) v

  last_blank : IsContinuation bytes at next → (at + 1 < next) × (is_blank (get_or bytes (next - 1) 0) ≡ true)
  last_blank k =
      let first : is_blank (get_or bytes (at + 1) 0) ≡ true = elim k.breaks [ inl e ↦ rw e feed_blank | inr e ↦ rw e.0 return_blank ] in
      let ahead : at + 1 < next = elim (eq-or-lt_of_le k.blanks.begun) [ inl e ↦ absurd (false≢true (sym (rw (← e) at k.blanks.holds) ∙ first)) | inr l ↦ l ] in
      (ahead, true_from_ne_false (is_blank (get_or bytes (next - 1) 0)) (k.blanks.first (next - 1) (omega arith) (omega arith)))

  pub represents-boundary : (held : List ℕ) → Represents escapes Text bytes at next held → (get_or bytes at 0 ≡ 13) ⊎ (get_or bytes at 0 ≡ 92) → IsCharBoundary bytes next
  represents-boundary held (plain e a v) (inl f) = boundary-after bytes utf8 at next (omega arith) (omega arith) v
  represents-boundary held (plain e a v) (inr f) = boundary-after bytes utf8 at next (omega arith) (omega arith) v
  represents-boundary held (return r) f = let e = r.1 in boundary-after bytes utf8 (at + 1) next (omega arith) (omega arith) (omega (arith, r.2))
  represents-boundary held (escape t e) f = escape-boundary held e
  represents-boundary held (continuation t k) f =
      let b = last_blank k in
      let a = blank_ascii (get_or bytes (next - 1) 0) b.1 in
      boundary-after bytes utf8 (next - 1) next (omega (arith, a.0)) (omega (arith, a.1)) (omega (arith, b.0))

pub special_ascii : (bytes : List ℕ) (at : ℕ) → (get_or bytes at 0 ≡ 13) ⊎ (get_or bytes at 0 ≡ 92) → get_or bytes at 0 < 128
special_ascii bytes at (inl e) = omega arith
special_ascii bytes at (inr e) = omega arith

-- the value of a string is the value of its span

module _ (text : List ℕ) (opening : Opening) (end : ℕ) (escapes : Bool) (content : Content) (from to : ℕ) (opens : opening_at text 0 ≡ opening) (ends : Ends text 0 opening end)
    (into : (other : Content) (held : List ℕ) → HoldsIn text opening end other held → (content ≡ other) × Holds escapes content text from to held)
    (back : (other : Content) (held : List ℕ) → content ≡ other → Holds escapes content text from to held → HoldsIn text opening end other held) where
  begins-into : (other : Content) (held : List ℕ) → BeginsWithString text other held → (content ≡ other) × Holds escapes content text from to held
  begins-into other held b =
      let there : Ends text 0 opening b.end = rw opens at b.ends in
      let same = Ends-one text 0 opening b.end end there ends in
      let holds : HoldsIn text opening b.end other held = rw opens at b.holds in
      into other held (subst (λ e. HoldsIn text opening e other held) same holds)

  begins-from : (other : Content) (held : List ℕ) → content ≡ other → Holds escapes other text from to held → BeginsWithString text other held
  begins-from other held same h = record {
    end = end;
    ends = rw opens ends;
    holds = rw opens (back other held same (subst (λ c. Holds escapes c text from to held) (sym same) h));
  }

  pub IsValue-from : (value : Option LiteralValue) → IsHeld escapes content text from to value → IsValue text value
  IsValue-from None h = (
    λ held b. let i = begins-into Characters held b in h (λ e. let s = i.0 in absurd (cc)) held i.1,
    λ held b. let i = begins-into Octets held b in h (λ e. let s = i.0 in absurd (cc)) held i.1,
  )
  IsValue-from (Some (TextValue value)) h = begins-from Characters (string_bytes value) h.0 h.1
  IsValue-from (Some (BytesValue value)) h = begins-from Octets value.items h.0 h.1

pub IsValue-quotes : (text : List ℕ) (content : Content) (end from : ℕ) → opening_at text 0 ≡ Quotes content → Ends text 0 (Quotes content) end → from ≡ body_of (Quotes content) 0 → (value : Option LiteralValue) → IsHeld true content text from (end - 1) value → IsValue text value
IsValue-quotes text content end from opens ends e value h =
    IsValue-from text (Quotes content) end true content (body_of (Quotes content) 0) (end - 1) opens ends (λ other held i. i) (λ other held s i. (s, i)) value (subst (λ n. IsHeld true content text n (end - 1) value) e h)

pub IsValue-raw : (text : List ℕ) (content : Content) (count end from : ℕ) → opening_at text 0 ≡ Raw content count → Ends text 0 (Raw content count) end → from ≡ body_of (Raw content count) 0 → (value : Option LiteralValue) → IsHeld false content text from (end - 1 - count) value → IsValue text value
IsValue-raw text content count end from opens ends e value h =
    IsValue-from text (Raw content count) end false content (body_of (Raw content count) 0) (end - 1 - count) opens ends (λ other held i. i) (λ other held s i. (s, i)) value (subst (λ n. IsHeld false content text n (end - 1 - count) value) e h)

-- a text begins with one value at most

one_in : (text : List ℕ) (opening : Opening) (end : ℕ) (content : Content) (xs ys : List ℕ) → HoldsIn text opening end content xs → HoldsIn text opening end content ys → xs ≡ ys
one_in text (Quotes other) end content xs ys h i = Holds-one true other text (body_of (Quotes other) 0) (end - 1) (end - 1) xs ys h.1 i.1 refl
one_in text (Raw other count) end content xs ys h i = Holds-one false other text (body_of (Raw other count) 0) (end - 1 - count) (end - 1 - count) xs ys h.1 i.1 refl
one_in text Space end content xs ys h i = absurd h
one_in text (Line kind) end content xs ys h i = absurd h
one_in text (Block kind) end content xs ys h i = absurd h
one_in text Word end content xs ys h i = absurd h
one_in text Number end content xs ys h i = absurd h
one_in text (Apostrophes other) end content xs ys h i = absurd h
one_in text Apostrophe end content xs ys h i = absurd h
one_in text (Single kind) end content xs ys h i = absurd h
one_in text NoOpening end content xs ys h i = absurd h

pub value_one : {text : List ℕ} {content : Content} {xs ys : List ℕ} → BeginsWithString text content xs → BeginsWithString text content ys → xs ≡ ys
value_one {text} {content} {xs} {ys} b d =
    let same = Ends-one text 0 (opening_at text 0) d.end b.end d.ends b.ends in
    one_in text (opening_at text 0) b.end content xs ys b.holds (subst (λ e. HoldsIn text (opening_at text 0) e content ys) same d.holds)
