-- The value of a literal as a function of its text is the value by the rules of its pieces.
use Rattle.std.proofs.Common.{◌≡◌, ◌≢◌, ℕ, zero, suc, ◌+◌, ◌-◌, ◌<◌, ◌≤◌, ◌==◌, ◌||◌, inl, inr, nat_le, Bool, true, false, Option, Some, None, option_map, List, [], ◌++◌, length, drop, get_or, get_or-drop, refl, sym, ◌∙◌, ap, subst, arith, string_bytes}
use Rattle.std.specs.List.{prefix_len}
use Rattle.std.specs.Option.{option_and_then}
use Rattle.std.proofs.lemmas.Bool.{cases_lt, cases_Bool, false≢true, eqb-true, eq-eqb, leb-true, le-leb, and_from, and_parts, or_cases, true_from_ne_false}
use Rattle.std.proofs.Math.Nat.{eq-or-lt_of_le}
use Rattle.std.proofs.lemmas.List.Sums.{prefix_len_passes}
use Rattle.logos_lexeme.specs.LexemeRuns.{Steps, here, step, IsFirst}
use Rattle.logos_lexeme.specs.LexemeOpenings.{hashes, opening_at}
use Rattle.logos_lexeme.specs.LexemeEnds.{InQuotes, escaped, plain as step_plain, ReachesQuote, IsRawEnd, Ends, body_of}
use Rattle.logos_lexeme.specs.LiteralBodies.{is_hex, is_blank, IsUnicodeEscape, IsContinuation, IsEscape, simple, hex, unicode, Represents, plain, return, escape, continuation, Holds, none, more}
use Rattle.logos_token.specs.LiteralValues.{HoldsIn, BeginsWithString, IsValue}
use Rattle.logos_lexeme.specs.LiteralPieces.{piece_at}
use Rattle.logos_token.specs.Held.{Held, of_text, of_bytes, held_from, is_quote, is_raw_quote, held_as, held_in, held, held_value}
use Rattle.logos_lexeme.specs.declared.lexeme.openings.Content.{Content}
use Rattle.logos_lexeme.specs.declared.lexeme.openings.Content.TheVariants.{Text as Characters, Bytes as Octets, C}
use Rattle.logos_lexeme.specs.declared.lexeme.openings.Opening.{Opening}
use Rattle.logos_lexeme.specs.declared.lexeme.openings.Opening.TheVariants.{Space, Line, Block, Word, Number, Quotes, Raw, Apostrophes, Character, Single, Nothing}
use Rattle.logos_token.specs.declared.token.value.LiteralValue.{LiteralValue}
use Rattle.logos_token.specs.declared.token.value.LiteralValue.TheVariants.{Text, Bytes}
use Rattle.logos_lexeme.proofs.CharacterLaws.{inside_from_byte}
use Rattle.logos_lexeme.proofs.RunLaws.{Steps-join, Steps-le, IsFirst-one, Until-one}
use Rattle.logos_lexeme.proofs.OpeningLaws.{at_least}
use Rattle.logos_lexeme.proofs.EndLaws.{InQuotes-one, InQuotes-apart, InQuotes-moves, quote-back, quote-here, quote-inside}
use Rattle.logos_lexeme.proofs.BodyLaws.{Represents-moves}
use Rattle.logos_token.proofs.values.ValueLaws.{Holds-le}
use Rattle.logos_lexeme.proofs.PieceLaws.{Characterizes, piece-characterizes, piece-all}

-- the closing of a kind of string
record Closing (escapes : Bool) (content : Content) (bytes : List ℕ) (closes : ℕ → Bool) (Close : ℕ → ℕ → Type 0) : Type 0 where
  pub at_once : (at : ℕ) → closes at ≡ true → Close at at
  pub one : (at to : ℕ) → closes at ≡ true → Close at to → at ≡ to
  pub ahead : (at to : ℕ) → closes at ≡ false → Close at to → at < to
  pub inside : (at to : ℕ) → Close at to → to < length bytes
  pub back : (at next to : ℕ) (stated : List ℕ) → closes at ≡ false → Represents escapes content bytes at next stated → Close at to → Close next to
  pub on : (at next to : ℕ) (stated : List ℕ) → closes at ≡ false → Represents escapes content bytes at next stated → Close next to → Close at to

-- the bytes up to the closing offset are those of the pieces that fill the span
module _ (escapes : Bool) (content : Content) (bytes : List ℕ) (closes : ℕ → Bool) (Close : ℕ → ℕ → Type 0) (closing : Closing escapes content bytes closes Close) where
  abbrev Filled : ℕ → List ℕ → Type 0
  Filled at held = (to : ℕ) × Close at to × Holds escapes content bytes at to held

  abbrev from : ℕ → ℕ → Option (List ℕ)
  from most at = held_from escapes content closes bytes most at

  abbrev afterward : ℕ → Option (List ℕ × ℕ) → Option (List ℕ)
  afterward most found = option_and_then (λ piece. option_map (λ rest. piece.0 ++ rest) (from most piece.1)) found

  rest-some : (most at next : ℕ) (stated held : List ℕ) → closes at ≡ false → Represents escapes content bytes at next stated → ((rest : List ℕ) → from most next ≡ Some rest → Filled next rest) →
      (rest : Option (List ℕ)) → from most next ≡ rest → option_map (λ xs. stated ++ xs) rest ≡ Some held → Filled at held
  rest-some most at next stated held c s all None e f = absurd (cc)
  rest-some most at next stated held c s all (Some rest) e f =
      let filled = all rest e in
      let whole : stated ++ rest ≡ held = cc in
      (filled.0, closing.on at next filled.0 stated c s filled.1, more s filled.2 (sym whole))

  piece-some : (most at : ℕ) (held : List ℕ) → closes at ≡ false → ((next : ℕ) (rest : List ℕ) → from most next ≡ Some rest → Filled next rest) →
      (found : Option (List ℕ × ℕ)) → Characterizes (Represents escapes content bytes at) found → afterward most found ≡ Some held → Filled at held
  piece-some most at held c all None t f = absurd (cc)
  piece-some most at held c all (Some piece) t f = rest-some most at piece.1 piece.0 held c t (all piece.1) (from most piece.1) refl f

  held-some : (most at : ℕ) (held : List ℕ) → from most at ≡ Some held → Filled at held
  held-some zero at held e = absurd (cc)
  held-some (suc most) at held e = elim (cases_Bool (closes at)) [
    | inl c ↦ let f : ◌≡◌ {A = Option (List ℕ)} (Some []) (Some held) = rw c at e in let g : [] ≡ held = cc in (at, closing.at_once at c, subst (λ xs. Holds escapes content bytes at at xs) g none)
    | inr c ↦ piece-some most at held c (λ next rest g. held-some most next rest g) (piece_at escapes content bytes at) (piece-characterizes content bytes at escapes) (rw c at e)
  ]

  nothing_more : (at to : ℕ) (held : List ℕ) → at ≡ to → Holds escapes content bytes at to held → held ≡ []
  nothing_more at to held e none = refl
  nothing_more at to held e (more {mid = mid} {first = stated} {rest = rest} s h f) = absurd (omega (arith, Represents-moves escapes content bytes at mid stated s, Holds-le escapes content bytes mid to rest h))

  still_open : (at to : ℕ) → Close at to → to < at + 0 → (b : Bool) → closes at ≡ b → ⊥
  still_open at to c l true e = let f = closing.one at to e c in omega arith
  still_open at to c l false e = let f = closing.ahead at to e c in omega arith

  goes : (most at to : ℕ) (held : List ℕ) → closes at ≡ false → Close at to → ((next : ℕ) (rest : List ℕ) → Close next to → Holds escapes content bytes next to rest → at < next → from most next ≡ Some rest) →
      Holds escapes content bytes at to held → afterward most (piece_at escapes content bytes at) ≡ Some held
  goes most at to held e c all none = absurd (let f = closing.ahead at to e c in omega arith)
  goes most at to held e c all (more {mid = mid} {first = stated} {rest = rest} s h f) =
      let others = all mid rest (closing.back at mid to stated e s c) h (Represents-moves escapes content bytes at mid stated s) in
      rw (piece-all content bytes at escapes mid stated s) (rw others (ap Some (sym f)))

  held-all : (most at to : ℕ) (held : List ℕ) → Close at to → Holds escapes content bytes at to held → to < at + most → from most at ≡ Some held
  held-all zero at to held c h l = absurd (still_open at to c l (closes at) refl)
  held-all (suc most) at to held c h l = elim (cases_Bool (closes at)) [
    | inl e ↦ rw e (ap Some (sym (nothing_more at to held (closing.one at to e c) h)))
    | inr e ↦ rw e (goes most at to held e c (λ next rest d i m. held-all most next to rest d i (omega arith)) h)
  ]

-- strings with escapes: the pieces are sought where the quote is sought

module _ (bytes : List ℕ) where
  -- a byte that does not close a string, and escapes nothing
  record IsInner (byte : ℕ) : Type 0 where
    pub visible : 0 < byte
    pub no_backslash : byte ≢ 92
    pub no_quote : byte ≢ 34

  hex-inner : (byte : ℕ) → is_hex byte ≡ true → IsInner byte
  hex-inner byte h = record {
    visible = elim (cases_lt 0 byte) [ inl l ↦ l | inr l ↦ let e : byte ≡ 0 = omega arith in absurd (false≢true (sym (ap is_hex e) ∙ h)) ];
    no_backslash = λ e. false≢true (sym (ap is_hex e) ∙ h);
    no_quote = λ e. false≢true (sym (ap is_hex e) ∙ h);
  }

  byte-inner : (byte k : ℕ) → byte ≡ k → 0 < k → k ≢ 92 → k ≢ 34 → IsInner byte
  byte-inner byte k e v b q = record { visible = omega arith; no_backslash = λ f. b (sym e ∙ f); no_quote = λ f. q (sym e ∙ f) }

  digit-inner : (byte : ℕ) → (is_hex byte || (byte == 95)) ≡ true → IsInner byte
  digit-inner byte h = elim (or_cases (is_hex byte) (byte == 95) h) [
    | inl t ↦ hex-inner byte t
    | inr t ↦ byte-inner byte 95 (eqb-true byte 95 t) (omega arith) (λ e. absurd (omega arith)) (λ e. absurd (omega arith))
  ]

  blank-inner : (byte : ℕ) → is_blank byte ≡ true → IsInner byte
  unfolding is_blank
  blank-inner byte h = record {
    visible = elim (cases_lt 0 byte) [ inl l ↦ l | inr l ↦ let e : byte ≡ 0 = omega arith in absurd (false≢true (sym (ap is_blank e) ∙ h)) ];
    no_backslash = λ e. false≢true (sym (ap is_blank e) ∙ h);
    no_quote = λ e. false≢true (sym (ap is_blank e) ∙ h);
  }

  abbrev Quote : ℕ → ℕ → Type 0
  Quote at next = InQuotes 34 bytes at next

  inner-step : (at : ℕ) → IsInner (get_or bytes at 0) → Quote at (at + 1)
  inner-step at i = step_plain (inside_from_byte bytes at i.visible) i.no_backslash i.no_quote refl

  -- over bytes inside a string
  inner-steps : (n at to : ℕ) → at + n ≡ to → ((i : ℕ) → at ≤ i → i < to → IsInner (get_or bytes i 0)) → Steps (InQuotes 34 bytes) at to
  inner-steps zero at to e all = let f : at ≡ to = omega arith in subst (λ k. Steps (InQuotes 34 bytes) at k) f here
  inner-steps (suc n) at to e all = step (inner-step at (all at (omega arith) (omega arith))) (inner-steps n (at + 1) to (omega arith) (λ i b l. all i (omega arith) l))

  unicode-inner : (at brace : ℕ) → IsUnicodeEscape bytes at brace → (i : ℕ) → at + 2 ≤ i → i < brace + 1 → IsInner (get_or bytes i 0)
  unicode-inner at brace u i begun ahead = elim (cases_lt i (at + 3)) [
    | inl l ↦ let e : at + 2 ≡ i = omega arith in byte-inner (get_or bytes i 0) 123 (rw e at u.opens) (omega arith) (λ e. absurd (omega arith)) (λ e. absurd (omega arith))
    | inr l ↦ elim (cases_lt i brace) [
      | inl m ↦ digit-inner (get_or bytes i 0) (u.digits i l m)
      | inr m ↦ let e : brace ≡ i = omega arith in byte-inner (get_or bytes i 0) 125 (rw e at u.closes) (omega arith) (λ e. absurd (omega arith)) (λ e. absurd (omega arith))
    ]
  ]

  escape-steps : (content : Content) (at next : ℕ) (held : List ℕ) → IsEscape content bytes at next held → Steps (InQuotes 34 bytes) at next
  escape-steps content at next held (simple e s v) = step (escaped e v) here
  escape-steps content at next held (hex h v) = step (escaped h.backslash refl) (inner-steps 2 (at + 2) next (omega arith)
      (λ i b l. elim (cases_lt i (at + 3)) [
        | inl m ↦ let e : at + 2 ≡ i = omega arith in hex-inner (get_or bytes i 0) (rw e at h.first)
        | inr m ↦ let e : at + 3 ≡ i = omega arith in hex-inner (get_or bytes i 0) (rw e at h.second)
      ]))
  escape-steps content at next held (unicode {brace} c u v) =
      let begun = u.begun in
      step (escaped u.backslash refl) (inner-steps (next - (at + 2)) (at + 2) next (omega arith) (λ i b l. unicode-inner at brace u i b (omega arith)))

  continuation-steps : (at next : ℕ) → at + 1 < next → IsContinuation bytes at next → Steps (InQuotes 34 bytes) at next
  continuation-steps at next ahead k =
      step (escaped k.backslash refl) (inner-steps (next - (at + 2)) (at + 2) next (omega arith) (λ i b l. blank-inner (get_or bytes i 0) (true_from_ne_false (is_blank (get_or bytes i 0)) (k.blanks.first i (omega arith) l))))

  no_blank : (byte : ℕ) → is_blank byte ≡ false → byte ≢ 10
  unfolding is_blank
  no_blank byte f e = false≢true (sym f ∙ ap is_blank e)

  no_blank_return : (byte : ℕ) → is_blank byte ≡ false → byte ≢ 13
  unfolding is_blank
  no_blank_return byte f e = false≢true (sym f ∙ ap is_blank e)

  -- the line break itself is blank
  passes_break : (at next : ℕ) → IsContinuation bytes at next → at + 1 < next
  passes_break at next k = elim (eq-or-lt_of_le k.blanks.begun) [
    | inl e ↦ let last : is_blank (get_or bytes (at + 1) 0) ≡ false = rw (sym e) at k.blanks.holds in
        elim k.breaks [ inl f ↦ absurd (no_blank (get_or bytes (at + 1) 0) last f) | inr f ↦ absurd (no_blank_return (get_or bytes (at + 1) 0) last f.0) ]
    | inr l ↦ l
  ]

  represents-steps : (content : Content) (at next : ℕ) (held : List ℕ) → at < length bytes → get_or bytes at 0 ≢ 34 → Represents true content bytes at next held → Steps (InQuotes 34 bytes) at next
  represents-steps content at next held i q (plain e a v) = step (step_plain i (e refl) q v) here
  represents-steps content at next held i q (return r) = inner-steps 2 at next (omega (arith, r.2)) (λ j b l. elim (cases_lt j (at + 1)) [
    | inl m ↦ let e : at ≡ j = omega (arith, r.2) in byte-inner (get_or bytes j 0) 13 (rw e at r.0) (omega arith) (λ e. absurd (omega arith)) (λ e. absurd (omega arith))
    | inr m ↦ let e : at + 1 ≡ j = omega (arith, r.2) in byte-inner (get_or bytes j 0) 10 (rw e at r.1) (omega arith) (λ e. absurd (omega arith)) (λ e. absurd (omega arith))
  ])
  represents-steps content at next held i q (escape t e) = escape-steps content at next held e
  represents-steps content at next held i q (continuation t k) = continuation-steps at next (passes_break at next k) k

  steps-back : {at mid to : ℕ} → Steps (InQuotes 34 bytes) at mid → ReachesQuote 34 bytes at to → ReachesQuote 34 bytes mid to
  steps-back here u = u
  steps-back {at} {mid} {to} (step {mid = next} s r) u = steps-back r (quote-back 34 bytes (λ e. absurd (omega arith)) at next to s u)

  quote-le : (at to : ℕ) → ReachesQuote 34 bytes at to → at ≤ to
  quote-le at to u = Steps-le (InQuotes 34 bytes) (InQuotes-moves 34 bytes) u.steps

  other_quote : (at : ℕ) → is_quote bytes at ≡ false → get_or bytes at 0 ≢ 34
  other_quote at f e = false≢true (sym f ∙ eq-eqb (get_or bytes at 0) 34 e)

  quote-ahead : (at to : ℕ) → is_quote bytes at ≡ false → ReachesQuote 34 bytes at to → at < to
  quote-ahead at to f u = elim (eq-or-lt_of_le (quote-le at to u)) [ inl e ↦ absurd (other_quote at f (rw (sym e) at u.stop)) | inr l ↦ l ]

  quote-within : (at to : ℕ) → ReachesQuote 34 bytes at to → to < length bytes
  quote-within at to u = quote-inside 34 bytes (omega arith) to u.stop

  closing-quote : (content : Content) → Closing true content bytes (is_quote bytes) (ReachesQuote 34 bytes)
  closing-quote content = record {
    at_once = λ at t. quote-here 34 bytes at (eqb-true (get_or bytes at 0) 34 t);
    one = λ at to t u. Until-one (InQuotes 34 bytes) (InQuotes-one 34 bytes) (λ i. get_or bytes i 0 ≡ 34) (InQuotes-apart 34 bytes (λ e. absurd (omega arith))) (quote-here 34 bytes at (eqb-true (get_or bytes at 0) 34 t)) u;
    ahead = quote-ahead;
    inside = quote-within;
    back = λ at next to stated f s u.
        let l = quote-ahead at to f u in
        let m = quote-within at to u in
        steps-back (represents-steps content at next stated (omega arith) (other_quote at f) s) u;
    on = λ at next to stated f s u.
        let l = quote-le next to u in
        let m = quote-within next to u in
        let moves = Represents-moves true content bytes at next stated s in
        record { steps = Steps-join (InQuotes 34 bytes) (represents-steps content at next stated (omega arith) (other_quote at f) s) u.steps; stop = u.stop };
  }

-- raw strings

module _ (count : ℕ) (bytes : List ℕ) where
  raw-from : (at : ℕ) → is_raw_quote count bytes at ≡ true → IsRawEnd count bytes at
  unfolding hashes
  raw-from at t =
      let p = and_parts (get_or bytes at 0 == 34) (nat_le count (prefix_len (λ c. c == 35) (drop (at + 1) bytes))) t in
      record {
        quote = eqb-true (get_or bytes at 0) 34 p.0;
        hashes = λ i l.
            let many = leb-true count (prefix_len (λ c. c == 35) (drop (at + 1) bytes)) p.1 in
            eqb-true (get_or bytes (at + 1 + i) 0) 35 (ap (λ c. c == 35) (sym (get_or-drop (at + 1) bytes i 0)) ∙ prefix_len_passes (λ c. c == 35) (drop (at + 1) bytes) i 0 (omega arith));
      }

  raw-into : (at : ℕ) → IsRawEnd count bytes at → is_raw_quote count bytes at ≡ true
  raw-into at r = and_from _ _ (eq-eqb (get_or bytes at 0) 34 r.quote) (le-leb count (hashes bytes (at + 1)) (at_least bytes (at + 1) count r.hashes))

  no_raw : (at : ℕ) → is_raw_quote count bytes at ≡ false → IsRawEnd count bytes at → ⊥
  no_raw at f r = false≢true (sym f ∙ raw-into at r)

  abbrev Close : ℕ → ℕ → Type 0
  Close at to = IsFirst (IsRawEnd count bytes) at to

  raw-ahead : (at to : ℕ) → is_raw_quote count bytes at ≡ false → Close at to → at < to
  raw-ahead at to f c = elim (eq-or-lt_of_le c.begun) [ inl e ↦ absurd (no_raw at f (rw (sym e) at c.holds)) | inr l ↦ l ]

  afterward_one : (at to : ℕ) → is_raw_quote count bytes at ≡ false → Close at to → at + 1 ≤ to
  afterward_one at to f c = let l = raw-ahead at to f c in omega arith

  -- a piece is one byte, or a line break of two
  data IsShort (at : ℕ) : ℕ → Type 0 where
    byte : IsShort at (at + 1)
    pair : get_or bytes (at + 1) 0 ≡ 10 → IsShort at (at + 2)

  short : (content : Content) (at next : ℕ) (held : List ℕ) → Represents false content bytes at next held → IsShort at next
  short content at next held (plain e a v) = rw v byte
  short content at next held (return r) = rw r.2 (pair r.1)
  short content at next held (escape t e) = absurd (false≢true t)
  short content at next held (continuation t k) = absurd (false≢true t)

  no_feed : (at : ℕ) → get_or bytes at 0 ≡ 10 → IsRawEnd count bytes at → ⊥
  no_feed at e r = let q = r.quote in omega arith

  raw-back : (at next to : ℕ) → is_raw_quote count bytes at ≡ false → IsShort at next → Close at to → Close next to
  raw-back at next to f byte c = record { begun = let l = raw-ahead at to f c in omega arith; holds = c.holds; first = λ i b l. c.first i (omega arith) l }
  raw-back at next to f (pair e) c = record {
    begun = elim (eq-or-lt_of_le (afterward_one at to f c)) [ inl g ↦ absurd (no_feed (at + 1) e (rw (sym g) at c.holds)) | inr l ↦ omega arith ];
    holds = c.holds;
    first = λ i b l. c.first i (omega arith) l;
  }

  raw-on : (at next to : ℕ) → is_raw_quote count bytes at ≡ false → IsShort at next → Close next to → Close at to
  raw-on at next to f byte c = record {
    begun = let b = c.begun in omega arith;
    holds = c.holds;
    first = λ i b l r. elim (eq-or-lt_of_le b) [ inl e ↦ no_raw at f (rw (sym e) at r) | inr m ↦ c.first i (omega arith) l r ];
  }
  raw-on at next to f (pair e) c = record {
    begun = let b = c.begun in omega arith;
    holds = c.holds;
    first = λ i b l r. elim (eq-or-lt_of_le b) [
      | inl g ↦ no_raw at f (rw (sym g) at r)
      | inr m ↦ let n : at + 1 ≤ i = omega arith in elim (eq-or-lt_of_le n) [ inl g ↦ no_feed (at + 1) e (rw (sym g) at r) | inr n ↦ c.first i (omega arith) l r ]
    ];
  }

  closing-raw : (content : Content) → Closing false content bytes (is_raw_quote count bytes) Close
  closing-raw content = record {
    at_once = λ at t. record { begun = omega arith; holds = raw-from at t; first = λ i b l. absurd (omega arith) };
    one = λ at to t c. IsFirst-one (record { begun = omega arith; holds = raw-from at t; first = λ i b l. absurd (omega arith) }) c;
    ahead = raw-ahead;
    inside = λ at to c. inside_from_byte bytes to (let q = c.holds.quote in omega arith);
    back = λ at next to stated f s c. raw-back at next to f (short content at next stated s) c;
    on = λ at next to stated f s c. raw-on at next to f (short content at next stated s) c;
  }

-- a literal

as-one : (content other : Content) (xs : List ℕ) → content ≡ other → held_as content xs ≡ held_as other xs
as-one content other xs e = ap (λ c. held_as c xs) e

module _ (text : List ℕ) where
  quotes-held : (content other : Content) (end : ℕ) (xs : List ℕ) → Ends text 0 (Quotes content) end → HoldsIn text (Quotes content) end other xs → held_in text (Quotes content) ≡ held_as other xs
  quotes-held content other end xs e h =
      let whole : end - 1 ≡ e.quote_at = omega (arith, e.after) in
      let closing = closing-quote text content in
      let inside = quote-within text (body_of (Quotes content) 0) e.quote_at e.until in
      let filled : Holds true content text (body_of (Quotes content) 0) e.quote_at xs = rw whole at (subst (λ c. Holds true c text (body_of (Quotes content) 0) (end - 1) xs) refl h.1) in
      rw (held-all true content text (is_quote text) (ReachesQuote 34 text) closing (length text) (body_of (Quotes content) 0) e.quote_at xs e.until filled (omega arith)) (as-one content other xs h.0)

  raw-held : (content other : Content) (count end : ℕ) (xs : List ℕ) → Ends text 0 (Raw content count) end → HoldsIn text (Raw content count) end other xs → held_in text (Raw content count) ≡ held_as other xs
  raw-held content other count end xs e h =
      let whole : end - 1 - count ≡ e.quote_at = omega (arith, e.after) in
      let closing = closing-raw count text content in
      let inside = closing.inside (body_of (Raw content count) 0) e.quote_at e.first in
      let filled : Holds false content text (body_of (Raw content count) 0) e.quote_at xs = rw whole at h.1 in
      rw (held-all false content text (is_raw_quote count text) (Close count text) closing (length text) (body_of (Raw content count) 0) e.quote_at xs e.first filled (omega arith)) (as-one content other xs h.0)

  in-held : (opening : Opening) (other : Content) (end : ℕ) (xs : List ℕ) → Ends text 0 opening end → HoldsIn text opening end other xs → held_in text opening ≡ held_as other xs
  in-held (Quotes content) other end xs e h = quotes-held content other end xs e h
  in-held (Raw content count) other end xs e h = raw-held content other count end xs e h
  in-held Space other end xs e h = absurd h
  in-held (Line kind) other end xs e h = absurd h
  in-held (Block kind) other end xs e h = absurd h
  in-held Word other end xs e h = absurd h
  in-held Number other end xs e h = absurd h
  in-held (Apostrophes content) other end xs e h = absurd h
  in-held Character other end xs e h = absurd h
  in-held (Single kind) other end xs e h = absurd h
  in-held Nothing other end xs e h = absurd h

  -- a literal with a value holds it
  pub held-from : (content : Content) (xs : List ℕ) → BeginsWithString text content xs → held text ≡ held_as content xs
  held-from content xs b = in-held (opening_at text 0) content b.end xs b.ends b.holds

  -- and a literal that holds something has that value

  abbrev IsHeldIn : Opening → Content → List ℕ → Type 0
  IsHeldIn opening other xs = (end : ℕ) × Ends text 0 opening end × HoldsIn text opening end other xs

  kind_of_held : (content : Content) (found : Option (List ℕ)) (other : Content) (xs : List ℕ) (h : Held) → held_as other xs ≡ Some h → option_and_then (held_as content) found ≡ Some h → (content ≡ other) × (found ≡ Some xs)
  kind_of_held content None other xs h e f = absurd (cc)
  kind_of_held Characters (Some ys) Characters xs h e f = let same : of_text ys ≡ of_text xs = cc in let rest : ys ≡ xs = cc in (refl, ap Some rest)
  kind_of_held Octets (Some ys) Octets xs h e f = let same : of_bytes ys ≡ of_bytes xs = cc in let rest : ys ≡ xs = cc in (refl, ap Some rest)
  kind_of_held Characters (Some ys) Octets xs h e f = absurd (let same : of_text ys ≡ of_bytes xs = cc in cc)
  kind_of_held Octets (Some ys) Characters xs h e f = absurd (let same : of_bytes ys ≡ of_text xs = cc in cc)
  kind_of_held C (Some ys) other xs h e f = absurd (cc)
  kind_of_held content (Some ys) C xs h e f = absurd (cc)

  in-back : (opening : Opening) (other : Content) (xs : List ℕ) (h : Held) → held_as other xs ≡ Some h → held_in text opening ≡ Some h → IsHeldIn opening other xs
  in-back (Quotes content) other xs h e f =
      let body = body_of (Quotes content) 0 in
      let k = kind_of_held content (held_from true content (is_quote text) text (length text) body) other xs h e f in
      let filled = held-some true content text (is_quote text) (ReachesQuote 34 text) (closing-quote text content) (length text) body xs k.1 in
      let whole : filled.0 ≡ filled.0 + 1 - 1 = omega arith in
      (filled.0 + 1, record { quote_at = filled.0; until = filled.1; after = refl }, (k.0, rw whole at filled.2))
  in-back (Raw content count) other xs h e f =
      let body = body_of (Raw content count) 0 in
      let k = kind_of_held content (held_from false content (is_raw_quote count text) text (length text) body) other xs h e f in
      let filled = held-some false content text (is_raw_quote count text) (Close count text) (closing-raw count text content) (length text) body xs k.1 in
      let whole : filled.0 ≡ filled.0 + 1 + count - 1 - count = omega arith in
      (filled.0 + 1 + count, record { quote_at = filled.0; first = filled.1; after = refl }, (k.0, rw whole at filled.2))
  in-back Space other xs h e f = absurd (cc)
  in-back (Line kind) other xs h e f = absurd (cc)
  in-back (Block kind) other xs h e f = absurd (cc)
  in-back Word other xs h e f = absurd (cc)
  in-back Number other xs h e f = absurd (cc)
  in-back (Apostrophes content) other xs h e f = absurd (cc)
  in-back Character other xs h e f = absurd (cc)
  in-back (Single kind) other xs h e f = absurd (cc)
  in-back Nothing other xs h e f = absurd (cc)

  held-back : (content : Content) (xs : List ℕ) (h : Held) → held_as content xs ≡ Some h → held text ≡ Some h → BeginsWithString text content xs
  held-back content xs h e f = let b = in-back (opening_at text 0) content xs h e f in record { end = b.0; ends = b.1; holds = b.2 }

  pub held-text : (xs : List ℕ) → held text ≡ Some (of_text xs) → BeginsWithString text Characters xs
  held-text xs e = held-back Characters xs (of_text xs) refl e

  pub held-bytes : (xs : List ℕ) → held text ≡ Some (of_bytes xs) → BeginsWithString text Octets xs
  held-bytes xs e = held-back Octets xs (of_bytes xs) refl e

  nothing-held : (found : Option Held) → held text ≡ found → IsValue text None → None ≡ found
  nothing-held None e v = refl
  nothing-held (Some (of_text xs)) e v = absurd (v.0 xs (held-text xs e))
  nothing-held (Some (of_bytes xs)) e v = absurd (v.1 xs (held-bytes xs e))

  -- a value by the rules is the value by the function
  pub held-value : (value : Option LiteralValue) → IsValue text value → option_map held_value value ≡ held text
  held-value None v = nothing-held (held text) refl v
  held-value (Some (Text value)) v = sym (held-from Characters (string_bytes value) v)
  held-value (Some (Bytes value)) v = sym (held-from Octets value.items v)

  -- and the other way round
  pub IsValue-held : (value : Option LiteralValue) → option_map held_value value ≡ held text → IsValue text value
  IsValue-held None e = (
    λ xs b. let f = held-from Characters xs b in absurd (cc),
    λ xs b. let f = held-from Octets xs b in absurd (cc),
  )
  IsValue-held (Some (Text value)) e = held-text (string_bytes value) (sym e)
  IsValue-held (Some (Bytes value)) e = held-bytes value.items (sym e)
