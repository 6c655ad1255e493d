-- The piece at an offset is the one that the rules of pieces allow there.
use Rattle.std.proofs.Common.{◌≡◌, ◌≢◌, ℕ, ◌+◌, ◌-◌, ◌<◌, ◌≤◌, ◌==◌, ◌&&◌, not, nat_lt, nat_le, inl, inr, Bool, true, false, Option, Some, None, MatchOption, List, length, drop, get_or, slice_range, get_or-drop, refl, sym, ◌∙◌, ap, arith}
use lib.Utf8.{scalar}
use Rattle.std.proofs.lemmas.Bool.{cases_lt, cases_Bool, false≢true, eqb-true, eq-eqb, leb-true, le-leb, ltb-true, lt-ltb, cond_both, and_from, and_parts, or_left, or_right, not_from_true, not_from_false}
use Rattle.std.proofs.lemmas.List.{get_or_past}
use Rattle.std.proofs.lemmas.List.Sums.{prefix_len_passes, prefix_len_stops}
use Rattle.logos_lexeme.specs.LexemeRuns.{IsFirst}
use Rattle.logos_lexeme.specs.LiteralBodies.{is_simple, is_hex, hex_value, greatest_of, digits_between, is_blank, BreaksLine, IsAllowed, IsUnicodeEscape, IsEscape, simple, hex, unicode, Represents, escape, continuation}
use Rattle.logos_lexeme.specs.inside.LiteralReads.{IsPlain, itself, break}
use Rattle.logos_lexeme.specs.LiteralPieces.{run_length, is_hex_or_line, hex_escape, has_unicode, unicode_escape, escape_at, is_allowed, is_return, plain_at, breaks_line, piece_at}
use Rattle.logos_lexeme.specs.declared.lexeme.openings.Content.{Content}
use Rattle.logos_lexeme.specs.declared.lexeme.openings.Content.TheVariants.{Text, Bytes, C}
use Rattle.logos_lexeme.proofs.RunLaws.{IsFirst-one}
use Rattle.logos_lexeme.proofs.BodyLaws.{Represents-one, represents-escape, represents-plain, plain-represents}

-- the value of a function is allowed by a relation, and there is none if the relation allows none
abbrev pub Characterizes : (ℕ → List ℕ → Type 0) → Option (List ℕ × ℕ) → Type 0
Characterizes P found = MatchOption found ((next : ℕ) (held : List ℕ) → P next held → ⊥) (λ f. P f.1 f.0)

characterizes-same : (P Q : ℕ → List ℕ → Type 0) → ((next : ℕ) (held : List ℕ) → P next held → Q next held) → ((next : ℕ) (held : List ℕ) → Q next held → P next held) →
    (found : Option (List ℕ × ℕ)) → Characterizes P found → Characterizes Q found
characterizes-same P Q on back None t = λ next held q. t next held (back next held q)
characterizes-same P Q on back (Some f) t = on f.1 f.0 t

-- a run ends at the first offset that does not pass
module _ (test : ℕ → Bool) (bytes : List ℕ) (from : ℕ) (none : test 0 ≡ false) where
  stops : test (get_or bytes (from + run_length test bytes from) 0) ≡ false
  stops = elim (cases_lt (run_length test bytes from) (length (drop from bytes))) [
    | inl l ↦ ap test (sym (get_or-drop from bytes (run_length test bytes from) 0)) ∙ prefix_len_stops test (drop from bytes) 0 l
    | inr l ↦ ap test (sym (get_or-drop from bytes (run_length test bytes from) 0) ∙ get_or_past (drop from bytes) (run_length test bytes from) 0 l) ∙ none
  ]

  passes : (i : ℕ) → from ≤ i → i < from + run_length test bytes from → test (get_or bytes i 0) ≡ true
  passes i begun ahead =
      let k : from + (i - from) ≡ i = omega arith in
      rw k at (ap test (sym (get_or-drop from bytes (i - from) 0)) ∙ prefix_len_passes test (drop from bytes) (i - from) 0 (omega arith))

  run-first : IsFirst (λ i. test (get_or bytes i 0) ≡ false) from (from + run_length test bytes from)
  run-first = record {
    begun = omega arith;
    holds = stops;
    first = λ i begun ahead f. false≢true (sym f ∙ passes i begun ahead);
  }

no_blank : is_blank 0 ≡ false
unfolding is_blank
no_blank = refl

module _ (content : Content) (bytes : List ℕ) (at : ℕ) where
  hex-characterizes : get_or bytes at 0 ≡ 92 → is_simple (get_or bytes (at + 1) 0) ≡ false → get_or bytes (at + 1) 0 ≡ 120 → Characterizes (IsEscape content bytes at) (hex_escape content bytes at)
  unfolding hex_escape
  hex-characterizes e n x =
      let value = hex_value (slice_range bytes (at + 2) (at + 4)) in
      cond_both (is_hex (get_or bytes (at + 2) 0) && (is_hex (get_or bytes (at + 3) 0) && nat_le value (greatest_of content))) _ _ (Characterizes (IsEscape content bytes at))
      (λ t.
      let first = and_parts (is_hex (get_or bytes (at + 2) 0)) (is_hex (get_or bytes (at + 3) 0) && nat_le value (greatest_of content)) t in
      let second = and_parts (is_hex (get_or bytes (at + 3) 0)) (nat_le value (greatest_of content)) first.1 in
      hex (record { backslash = e; letter = x; first = first.0; second = second.0; small = leb-true value (greatest_of content) second.1 }) refl)
      none
    where
      none : (is_hex (get_or bytes (at + 2) 0) && (is_hex (get_or bytes (at + 3) 0) && nat_le (hex_value (slice_range bytes (at + 2) (at + 4))) (greatest_of content))) ≡ false → (next : ℕ) (held : List ℕ) → IsEscape content bytes at next held → ⊥
      none f next held (simple g s v) = false≢true (sym n ∙ s)
      none f next held (hex h v) = false≢true (sym f ∙ and_from _ _ h.first (and_from _ _ h.second (le-leb _ _ h.small)))
      none f next held (unicode c u v) = let g = u.letter in omega arith

  -- the conditions of `\u{N}`, as one test
  abbrev unicode_test : ℕ → Bool
  unicode_test brace = has_unicode content && ((get_or bytes (at + 2) 0 == 123) && (is_hex (get_or bytes (at + 3) 0) && ((get_or bytes brace 0 == 125) && (nat_le (length (digits_between bytes (at + 3) brace)) 6 && scalar (hex_value (digits_between bytes (at + 3) brace))))))

  has-unicode : content ≢ Bytes → has_unicode content ≡ true
  has-unicode other = go content other
    where
      go : (c : Content) → c ≢ Bytes → has_unicode c ≡ true
      go Text n = refl
      go Bytes n = absurd (n refl)
      go C n = refl

  no_bytes : has_unicode content ≡ true → content ≢ Bytes
  no_bytes t e = false≢true (sym (ap has_unicode e) ∙ t)

  -- the digits of an escape end at its brace
  brace-is : (brace : ℕ) → IsUnicodeEscape bytes at brace → at + 3 + run_length is_hex_or_line bytes (at + 3) ≡ brace
  brace-is brace u = IsFirst-one (run-first is_hex_or_line bytes (at + 3) refl) (record {
    begun = u.begun;
    holds = ap is_hex_or_line u.closes;
    first = λ i begun ahead f. false≢true (sym f ∙ u.digits i begun ahead);
  })

  unicode-tested : (brace : ℕ) → content ≢ Bytes → IsUnicodeEscape bytes at brace → unicode_test brace ≡ true
  unicode-tested brace c u =
      and_from _ _ (has-unicode c) (and_from _ _ (eq-eqb (get_or bytes (at + 2) 0) 123 u.opens) (and_from _ _ u.first (and_from _ _ (eq-eqb (get_or bytes brace 0) 125 u.closes)
      (and_from _ _ (le-leb (length (digits_between bytes (at + 3) brace)) 6 u.few) u.scalar))))

  unicode-escape : (brace : ℕ) → brace ≡ at + 3 + run_length is_hex_or_line bytes (at + 3) → get_or bytes at 0 ≡ 92 → get_or bytes (at + 1) 0 ≡ 117 → unicode_test brace ≡ true → IsUnicodeEscape bytes at brace
  unicode-escape brace is e x t =
      let a = and_parts (has_unicode content) _ t in
      let b = and_parts (get_or bytes (at + 2) 0 == 123) _ a.1 in
      let c = and_parts (is_hex (get_or bytes (at + 3) 0)) _ b.1 in
      let d = and_parts (get_or bytes brace 0 == 125) _ c.1 in
      let f = and_parts (nat_le (length (digits_between bytes (at + 3) brace)) 6) _ d.1 in
      record {
        backslash = e;
        letter = x;
        opens = eqb-true (get_or bytes (at + 2) 0) 123 b.0;
        first = c.0;
        begun = omega arith;
        digits = λ i begun ahead. passes is_hex_or_line bytes (at + 3) refl i begun (omega arith);
        closes = eqb-true (get_or bytes brace 0) 125 d.0;
        few = leb-true (length (digits_between bytes (at + 3) brace)) 6 f.0;
        scalar = f.1;
      }

  unicode-characterizes : get_or bytes at 0 ≡ 92 → is_simple (get_or bytes (at + 1) 0) ≡ false → get_or bytes (at + 1) 0 ≡ 117 → Characterizes (IsEscape content bytes at) (unicode_escape content bytes at)
  unfolding unicode_escape
  unicode-characterizes e n x =
      let brace = at + 3 + run_length is_hex_or_line bytes (at + 3) in
      cond_both (unicode_test brace) _ _ (Characterizes (IsEscape content bytes at))
      (λ t. unicode (no_bytes (and_parts (has_unicode content) _ t).0) (unicode-escape brace refl e x t) refl)
      none
    where
      none : unicode_test (at + 3 + run_length is_hex_or_line bytes (at + 3)) ≡ false → (next : ℕ) (held : List ℕ) → IsEscape content bytes at next held → ⊥
      none f next held (simple g s v) = false≢true (sym n ∙ s)
      none f next held (hex h v) = let g = h.letter in omega arith
      none f next held (unicode {brace} c u v) = false≢true (sym f ∙ ap unicode_test (brace-is brace u) ∙ unicode-tested brace c u)

  escape-characterizes : get_or bytes at 0 ≡ 92 → Characterizes (IsEscape content bytes at) (escape_at content bytes at)
  unfolding escape_at
  escape-characterizes e =
      let letter = get_or bytes (at + 1) 0 in
      cond_both (is_simple letter) _ _ (Characterizes (IsEscape content bytes at)) (λ s. simple e s refl) (λ n.
      cond_both (letter == 120) _ _ (Characterizes (IsEscape content bytes at)) (λ x. hex-characterizes e n (eqb-true letter 120 x)) (λ x.
      cond_both (letter == 117) _ _ (Characterizes (IsEscape content bytes at)) (λ u. unicode-characterizes e n (eqb-true letter 117 u)) (λ u.
      none n x u)))
    where
      none : is_simple (get_or bytes (at + 1) 0) ≡ false → (get_or bytes (at + 1) 0 == 120) ≡ false → (get_or bytes (at + 1) 0 == 117) ≡ false → (next : ℕ) (held : List ℕ) → IsEscape content bytes at next held → ⊥
      none n x u next held (simple f s v) = false≢true (sym n ∙ s)
      none n x u next held (hex h v) = false≢true (sym x ∙ eq-eqb (get_or bytes (at + 1) 0) 120 h.letter)
      none n x u next held (unicode c w v) = false≢true (sym u ∙ eq-eqb (get_or bytes (at + 1) 0) 117 w.letter)

-- a byte that represents itself

no_thirteen : (byte : ℕ) → not (byte == 13) ≡ true → byte ≢ 13
no_thirteen byte t e = false≢true (sym (not_from_true (byte == 13) (eq-eqb byte 13 e)) ∙ t)

is-other : (byte : ℕ) → byte ≢ 13 → not (byte == 13) ≡ true
is-other byte n = elim (cases_Bool (byte == 13)) [ inl t ↦ absurd (n (eqb-true byte 13 t)) | inr f ↦ not_from_false (byte == 13) f ]

allowed-from : (content : Content) (byte : ℕ) → is_allowed content byte ≡ true → IsAllowed content byte
allowed-from Text byte t = record { no_return = no_thirteen byte t; ascii = λ e. absurd (cc) }
allowed-from Bytes byte t = let p = and_parts (not (byte == 13)) (nat_lt byte 128) t in record { no_return = no_thirteen byte p.0; ascii = λ e. ltb-true byte 128 p.1 }
allowed-from C byte t = record { no_return = no_thirteen byte t; ascii = λ e. absurd (cc) }

allowed-into : (content : Content) (byte : ℕ) → IsAllowed content byte → is_allowed content byte ≡ true
allowed-into Text byte a = is-other byte a.no_return
allowed-into Bytes byte a = and_from _ _ (is-other byte a.no_return) (lt-ltb byte 128 (a.ascii refl))
allowed-into C byte a = is-other byte a.no_return

return-parts : (bytes : List ℕ) (at : ℕ) → is_return bytes at ≡ true → (get_or bytes at 0 ≡ 13) × (get_or bytes (at + 1) 0 ≡ 10)
return-parts bytes at t =
    let p = and_parts (get_or bytes at 0 == 13) (get_or bytes (at + 1) 0 == 10) t in
    (eqb-true (get_or bytes at 0) 13 p.0, eqb-true (get_or bytes (at + 1) 0) 10 p.1)

return-test : (bytes : List ℕ) (at : ℕ) → get_or bytes at 0 ≡ 13 → get_or bytes (at + 1) 0 ≡ 10 → is_return bytes at ≡ true
return-test bytes at e f = and_from _ _ (eq-eqb (get_or bytes at 0) 13 e) (eq-eqb (get_or bytes (at + 1) 0) 10 f)

breaks-from : (bytes : List ℕ) (at : ℕ) → breaks_line bytes at ≡ true → BreaksLine bytes at
breaks-from bytes at t = elim (cases_Bool (get_or bytes at 0 == 10)) [
  | inl e ↦ inl (eqb-true (get_or bytes at 0) 10 e)
  | inr f ↦ inr (return-parts bytes at (rw f at t))
]

breaks-into : (bytes : List ℕ) (at : ℕ) → BreaksLine bytes at → breaks_line bytes at ≡ true
breaks-into bytes at (inl e) = or_left (get_or bytes at 0 == 10) (is_return bytes at) (eq-eqb (get_or bytes at 0) 10 e)
breaks-into bytes at (inr e) = or_right (get_or bytes at 0 == 10) (is_return bytes at) (return-test bytes at e.0 e.1)

module _ (content : Content) (bytes : List ℕ) (at : ℕ) where
  plain-characterizes : Characterizes (IsPlain content bytes at) (plain_at content bytes at)
  unfolding plain_at
  plain-characterizes =
      cond_both (is_allowed content (get_or bytes at 0)) _ _ (Characterizes (IsPlain content bytes at)) (λ t. itself (allowed-from content (get_or bytes at 0) t) refl) (λ n.
      cond_both (is_return bytes at) _ _ (Characterizes (IsPlain content bytes at)) (λ t. let p = return-parts bytes at t in break (p.0, p.1, refl)) (λ f.
      none n f))
    where
      none : is_allowed content (get_or bytes at 0) ≡ false → is_return bytes at ≡ false → (next : ℕ) (held : List ℕ) → IsPlain content bytes at next held → ⊥
      none n f next held (itself a v) = false≢true (sym n ∙ allowed-into content (get_or bytes at 0) a)
      none n f next held (break r) = false≢true (sym f ∙ return-test bytes at r.0 r.1)

  pub piece-characterizes : (escapes : Bool) → Characterizes (Represents escapes content bytes at) (piece_at escapes content bytes at)
  unfolding piece_at
  piece-characterizes escapes =
      cond_both (not (escapes && (get_or bytes at 0 == 92))) _ _ (Characterizes (Represents escapes content bytes at))
      (λ t. let other = no_escape t in
      characterizes-same (IsPlain content bytes at) (Represents escapes content bytes at) (plain-represents content bytes at escapes other) (represents-plain content bytes at escapes other) (plain_at content bytes at) plain-characterizes)
      (λ f.
      let p = and_parts escapes (get_or bytes at 0 == 92) (escaped f) in
      let e = eqb-true (get_or bytes at 0) 92 p.1 in
      cond_both (breaks_line bytes (at + 1)) _ _ (Characterizes (Represents escapes content bytes at))
      (λ t. continuation p.0 (record { backslash = e; breaks = breaks-from bytes (at + 1) t; blanks = run-first is_blank bytes (at + 1) no_blank }))
      (λ n. characterizes-same (IsEscape content bytes at) (Represents escapes content bytes at) (λ next held h. escape p.0 h)
      (represents-escape content bytes at escapes p.0 e (λ b. false≢true (sym n ∙ breaks-into bytes (at + 1) b))) (escape_at content bytes at) (escape-characterizes content bytes at e)))
    where
      no_escape : not (escapes && (get_or bytes at 0 == 92)) ≡ true → escapes ≡ true → get_or bytes at 0 ≢ 92
      no_escape t s e = false≢true (sym (not_from_true (escapes && (get_or bytes at 0 == 92)) (and_from _ _ s (eq-eqb (get_or bytes at 0) 92 e))) ∙ t)

      escaped : not (escapes && (get_or bytes at 0 == 92)) ≡ false → (escapes && (get_or bytes at 0 == 92)) ≡ true
      escaped f = elim (cases_Bool (escapes && (get_or bytes at 0 == 92))) [ inl t ↦ t | inr g ↦ absurd (false≢true (sym f ∙ not_from_false (escapes && (get_or bytes at 0 == 92)) g)) ]

  -- so it is the piece at this offset

  characterizes-all : (escapes : Bool) (found : Option (List ℕ × ℕ)) → Characterizes (Represents escapes content bytes at) found → (next : ℕ) (held : List ℕ) → Represents escapes content bytes at next held → found ≡ Some (held, next)
  characterizes-all escapes None t next held s = absurd (t next held s)
  characterizes-all escapes (Some (stated, end)) t next held s =
      let one = Represents-one escapes content bytes at end next stated held t s in
      rw (one.0, one.1) refl

  pub piece-all : (escapes : Bool) (next : ℕ) (held : List ℕ) → Represents escapes content bytes at next held → piece_at escapes content bytes at ≡ Some (held, next)
  piece-all escapes next held s = characterizes-all escapes (piece_at escapes content bytes at) (piece-characterizes escapes) next held s
