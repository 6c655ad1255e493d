-- Literals with contents in a window have the same contents in the second text.
use Rattle.std.proofs.Common.{◌≡◌, ℕ, ◌+◌, ◌-◌, ◌<◌, ◌≤◌, ◌==◌, ◌&&◌, ◌||◌, nat_le, inl, inr, Bool, true, false, List, length, get_or, filter, Option, MatchOption, refl, sym, ◌∙◌, ap, subst, arith}
use Rattle.std.proofs.lemmas.Bool.{cases_lt, cases_Bool, false≢true, and_parts, eqb-true, leb-true, or_cases}
use Rattle.std.specs.Char.{is_ascii_digit}
use Rattle.std.specs.Str.{IsCharBoundary}
use Rattle.unicode_ident.proofs.IdentLemmas.{is_xid_continue-ascii, is_xid_start-is_xid_continue}
use Rattle.logos_lexeme.specs.LexemeCharacters.{character, past, is_start, is_continuing}
use Rattle.logos_lexeme.specs.LexemeRuns.{Steps, here, step, IsLast, Run, IsFirst, Passes}
use Rattle.logos_lexeme.specs.LexemeEnds.{IsSuffix, has_base, Continues, letter, point, sign}
use Rattle.logos_lexeme.specs.LexemeOpenings.{name_at}
use Rattle.logos_lexeme.specs.LiteralBodies.{is_simple, is_hex, digits_between, is_blank, BreaksLine, IsHexEscape, IsUnicodeEscape, IsEscape, simple, hex, unicode, IsContinuation, IsAllowed, plain, return, escape, continuation, IsPiece, IsCharacterPiece, unescaped, escaped}
use Rattle.logos_lexeme.specs.declared.lexeme.openings.Content.{Content}
use Rattle.logos_lexeme.proofs.CharacterLaws.{inside_from_byte, character-ascii}
use Rattle.logos_lexeme.proofs.RunLaws.{Steps-le}
use Rattle.logos_lexeme.proofs.EndLaws.{Continues-moves, step-boundary}
use Rattle.logos_lexeme.proofs.BodyLaws.{piece-moves}
use Rattle.logos_lexeme.proofs.again.PrintWindows.{Window, blank_fails, blank_character, same_slice}
use Rattle.logos_lexeme.proofs.again.PrintEnds.{steps_same, continues_same, passes_same}
use Rattle.logos_lexeme.proofs.again.PrintNames.{Names, raw, plain as plain_name, nothing, names, raw_parts, continuing-32, continuing-10, continuing-0}

blank-13 : is_blank 13 ≡ true
unfolding is_blank
blank-13 = refl

module _ (a b : List ℕ) (p q k : ℕ) (w : Window a b p q k) where
  abbrev At : ℕ → ℕ → Type 0
  At x y = (x + q ≡ y + p) × (p ≤ x)

  byte : (x y i : ℕ) → At x y → x + i < p + k → get_or b (y + i) 0 ≡ get_or a (x + i) 0
  byte x y i e l = w.same (x + i) (y + i) (omega (arith, e.0)) (omega (arith, e.1)) l

  first_byte : (x y : ℕ) → At x y → x < p + k → get_or b y 0 ≡ get_or a x 0
  first_byte x y e l = w.same x y e.0 e.1 l

  hex_same : (content : Content) (x y : ℕ) → At x y → x + 3 < p + k → IsHexEscape content a x → IsHexEscape content b y
  hex_same content x y e l r = record {
    backslash = first_byte x y e (omega arith) ∙ r.backslash;
    letter = byte x y 1 e (omega arith) ∙ r.letter;
    first = ap is_hex (byte x y 2 e (omega arith)) ∙ r.first;
    second = ap is_hex (byte x y 3 e l) ∙ r.second;
    small = let s = same_slice a b p q k w (x + 2) (y + 2) (x + 4) (y + 4) (omega (arith, e.0)) (omega (arith, e.0)) (omega (arith, e.1)) (omega arith) (omega arith) in rw s r.small;
  }

  unicode_same : (x y z v : ℕ) → At x y → At z v → z < p + k → IsUnicodeEscape a x z → IsUnicodeEscape b y v
  unicode_same x y z v e f l r =
      let begun = r.begun in
      let digits : digits_between b (y + 3) v ≡ digits_between a (x + 3) z = ap (filter is_hex) (same_slice a b p q k w (x + 3) (y + 3) z v (omega (arith, e.0)) f.0 (omega (arith, e.1)) (omega arith) begun) in
      record {
        backslash = first_byte x y e (omega arith) ∙ r.backslash;
        letter = byte x y 1 e (omega arith) ∙ r.letter;
        opens = byte x y 2 e (omega arith) ∙ r.opens;
        first = ap is_hex (byte x y 3 e (omega arith)) ∙ r.first;
        begun = omega (arith, e.0, f.0);
        digits = λ i m n. let j = i + p - q in ap (λ c. is_hex c || (c == 95)) (w.same j i (omega (arith, e.0, e.1)) (omega (arith, e.0, e.1)) (omega (arith, e.0, f.0, e.1))) ∙ r.digits j (omega (arith, e.0, e.1)) (omega (arith, e.0, f.0, e.1));
        closes = first_byte z v f l ∙ r.closes;
        few = rw digits r.few;
        scalar = rw digits r.scalar;
      }

  escape_same : (content : Content) (x y z v : ℕ) → At x y → At z v → z < p + k → {held : List ℕ} → IsEscape content a x z held → (other : List ℕ) × IsEscape content b y v other
  escape_same content x y z v e f l (simple s t m) = (_, simple (first_byte x y e (omega arith) ∙ s) (ap is_simple (byte x y 1 e (omega arith)) ∙ t) (omega (arith, e.0, f.0)))
  escape_same content x y z v e f l (hex r m) = (_, hex (hex_same content x y e (omega arith) r) (omega (arith, e.0, f.0)))
  escape_same content x y z v e f l (unicode {brace} c r m) =
      let n = brace + q - p in
      let begun = r.begun in
      let at : At brace n = (omega (arith, e.0, e.1), omega (arith, e.1)) in
      (_, unicode {brace = n} c (unicode_same x y brace n e at (omega arith) r) (omega (arith, at.0, f.0)))

  breaks_same : (x y z : ℕ) → At x y → IsFirst (λ i. is_blank (get_or a i 0) ≡ false) (x + 1) z → z < p + k → BreaksLine a (x + 1) → BreaksLine b (y + 1)
  breaks_same x y z e r l (inl f) = let g = r.begun in inl (byte x y 1 e (omega arith) ∙ f)
  breaks_same x y z e r l (inr f) =
      let g = r.begun in
      elim (cases_lt (x + 2) (p + k)) [
        | inl m ↦ inr (byte x y 1 e (omega arith) ∙ f.0, w.same (x + 1 + 1) (y + 1 + 1) (omega (arith, e.0)) (omega (arith, e.1)) (omega arith) ∙ f.1)
        | inr m ↦ absurd (let h : z ≡ x + 1 = omega arith in let c : get_or a z 0 ≡ 13 = ap (λ i. get_or a i 0) h ∙ f.0 in false≢true (sym r.holds ∙ ap is_blank c ∙ blank-13))
      ]

  continuation_same : (x y z v : ℕ) → At x y → At z v → z < p + k → IsContinuation a x z → IsContinuation b y v
  continuation_same x y z v e f l r =
      let begun = r.blanks.begun in
      record {
        backslash = first_byte x y e (omega arith) ∙ r.backslash;
        breaks = breaks_same x y z e r.blanks l r.breaks;
        blanks = record {
          begun = omega (arith, e.0, f.0);
          holds = ap is_blank (first_byte z v f l) ∙ r.blanks.holds;
          first = λ i m n g. let j = i + p - q in r.blanks.first j (omega (arith, e.0, e.1)) (omega (arith, e.0, f.0, e.1)) (sym (ap is_blank (w.same j i (omega (arith, e.0, e.1)) (omega (arith, e.0, e.1)) (omega (arith, e.0, f.0, e.1)))) ∙ g);
        };
      }

  allowed_same : (content : Content) (x y : ℕ) → At x y → x < p + k → IsAllowed content (get_or a x 0) → IsAllowed content (get_or b y 0)
  allowed_same content x y e l r = rw (first_byte x y e l) r

  piece_same : (escapes : Bool) (content : Content) (top : ℕ) → top < p + k → (x y z v : ℕ) → At x y → At z v → z ≤ top → Unit {0} → IsPiece escapes content a x z → IsPiece escapes content b y v
  piece_same escapes content top l x y z v e f high _ (held, plain s r m) =
      (_, plain (λ t g. s t (sym (first_byte x y e (omega arith)) ∙ g)) (allowed_same content x y e (omega arith) r) (omega (arith, e.0, f.0)))
  piece_same escapes content top l x y z v e f high _ (held, return r) = let m = r.2 in (_, return (first_byte x y e (omega arith) ∙ r.0, byte x y 1 e (omega arith) ∙ r.1, omega (arith, e.0, f.0)))
  piece_same escapes content top l x y z v e f high _ (held, escape t r) = let other = escape_same content x y z v e f (omega arith) r in (other.0, escape t other.1)
  piece_same escapes content top l x y z v e f high _ (held, continuation t r) = (_, continuation t (continuation_same x y z v e f (omega arith) r))

  pub character_piece : (content : Content) (x y z v : ℕ) → At x y → At z v → z < p + k → IsCharacterPiece content a x z → IsCharacterPiece content b y v
  character_piece content x y z v e f l (unescaped s r m) = unescaped (λ g. s (sym (first_byte x y e (omega arith)) ∙ g)) (allowed_same content x y e (omega arith) r) (omega (arith, e.0, f.0))
  character_piece content x y z v e f l (escaped r) = let other = escape_same content x y z v e f l r in escaped other.1

  pieces_same : (escapes : Bool) (content : Content) (x y z v : ℕ) → At x y → At z v → z < p + k → Steps (IsPiece escapes content a) x z → Steps (IsPiece escapes content b) y v
  pieces_same escapes content x y z v e f l r = steps_same a b p q k w z (IsPiece escapes content a) (IsPiece escapes content b) (λ _. Unit {0}) (piece_same escapes content z l) (λ _ _ _ _. tt) (piece-moves escapes content a) r y v e f (omega arith) tt

  pub raw_pieces : (content : Content) (x y z v : ℕ) → At x y → At z v → z < p + k → Steps (IsPiece false content a) x z → Steps (IsPiece false content b) y v
  raw_pieces = pieces_same false

  pub string_pieces : (content : Content) (x y z v : ℕ) → At x y → At z v → z < p + k → Steps (IsPiece true content a) x z → Steps (IsPiece true content b) y v
  string_pieces = pieces_same true

-- numbers

digit-continuing : (c : ℕ) → is_ascii_digit c ≡ true → is_continuing c ≡ true
unfolding is_continuing
digit-continuing c e =
    let r = and_parts (nat_le 48 c) (nat_le c 57) e in
    let small : c ≤ 57 = leb-true c 57 r.1 in
    is_xid_continue-ascii c (omega (arith, small)) ∙ rw e refl

pub digit_continues : (based : Bool) (bytes : List ℕ) (at : ℕ) → is_ascii_digit (get_or bytes at 0) ≡ true → Continues based bytes at (past bytes at)
digit_continues based bytes at e =
    let r = and_parts _ _ e in
    let small : get_or bytes at 0 ≤ 57 = leb-true (get_or bytes at 0) 57 r.1 in
    let large : 48 ≤ get_or bytes at 0 = leb-true 48 (get_or bytes at 0) r.0 in
    letter (record { inside = inside_from_byte bytes at (omega arith); passes = ap is_continuing (character-ascii bytes at (omega arith)) ∙ digit-continuing (get_or bytes at 0) e; moves = refl })

start-continuing : (c : ℕ) → is_start c ≡ true → is_continuing c ≡ true
unfolding is_start is_continuing
start-continuing c e = elim (or_cases _ (c == 95) e) [
  | inl f ↦ is_xid_start-is_xid_continue c f
  | inr f ↦ let g = eqb-true c 95 f in rw (g, is_xid_continue-ascii 95 (omega arith)) refl
]

continuing-inside : (bytes : List ℕ) (at : ℕ) → is_continuing (character bytes at) ≡ true → at < length bytes
continuing-inside bytes at e = elim (cases_lt 0 (get_or bytes at 0)) [
  | inl l ↦ inside_from_byte bytes at l
  | inr l ↦ absurd (let z : get_or bytes at 0 ≡ 0 = omega arith in false≢true (sym continuing-0 ∙ ap is_continuing (sym (character-ascii bytes at (omega arith) ∙ z)) ∙ e))
]

letter_at : (based : Bool) (bytes : List ℕ) (at : ℕ) → is_continuing (character bytes at) ≡ true → Continues based bytes at (past bytes at)
letter_at based bytes at e = letter (record { inside = continuing-inside bytes at e; passes = e; moves = refl })

continuing-114 : is_continuing 114 ≡ true
unfolding is_continuing
continuing-114 = rw (is_xid_continue-ascii 114 (omega arith)) refl

-- after a number there is no suffix
no_suffix_by : (based : Bool) (bytes : List ℕ) (at to : ℕ) (o : Option ℕ) → IsLast (Continues based bytes) at → Names bytes at o → MatchOption o (to ≡ at) (λ n. Run (Passes is_continuing bytes) (past bytes n) to) → to ≡ at
no_suffix_by based bytes at to o last (raw t) r = absurd (let l = (raw_parts bytes at t).0 in last (past bytes at) (letter_at based bytes at (ap is_continuing (character-ascii bytes at (omega arith) ∙ l) ∙ continuing-114)))
no_suffix_by based bytes at to o last (plain_name t) r = absurd (last (past bytes at) (letter_at based bytes at (start-continuing (character bytes at) t)))
no_suffix_by based bytes at to o last (nothing t) r = r

pub number_no_suffix : (based : Bool) (bytes : List ℕ) (at to : ℕ) → IsLast (Continues based bytes) at → IsSuffix bytes at to → to ≡ at
number_no_suffix based bytes at to last r = no_suffix_by based bytes at to (name_at bytes at) last (names bytes at) r

module _ (a b : List ℕ) (p q k : ℕ) (w : Window a b p q k) where
  abbrev Spots : ℕ → ℕ → Type 0
  Spots x y = (x + q ≡ y + p) × (p ≤ x)

  -- the last step of a number is over a letter
  last_step : (based : Bool) (x y : ℕ) → Spots x y → IsLast (Continues based a) (p + k) → IsCharBoundary a x → Continues based a x (p + k) → Continues based b y (q + k)
  last_step based x y e last bound (letter r) = letter (passes_same a b p q k w is_continuing x y (p + k) (q + k) e (omega arith, omega arith) (omega arith) bound r)
  last_step based x y e last bound (point t d g m) = absurd (last (past a (p + k)) (digit_continues based a (p + k) (rw m g)))
  last_step based x y e last bound (sign t c d g m) = absurd (last (past a (p + k)) (digit_continues based a (p + k) (rw m g)))

  number_steps : (based : Bool) → IsLast (Continues based a) (p + k) → {x z : ℕ} → Steps (Continues based a) x z → (y v : ℕ) → Spots x y → Spots z v → z ≡ p + k → p < x → IsCharBoundary a x → Steps (Continues based b) y v
  number_steps based last {x} here y v e f is low bound = let same : y ≡ v = omega (arith, e.0, f.0) in subst (λ m. Steps (Continues based b) y m) same here
  number_steps based last {x} {z} (step {mid = m} s r) y v e f is low bound =
      let n = m + q - p in
      let ahead = Continues-moves based a x m s in
      let le = Steps-le (Continues based a) (Continues-moves based a) r in
      let at : Spots m n = (omega (arith, e.1, e.0), omega (arith, e.1)) in
      let one : Continues based b y n = elim (cases_lt m (p + k)) [
        | inl l ↦ continues_same a b p q k w based x y m n e at l low bound s
        | inr l ↦
            let here : m ≡ p + k = omega arith in
            let there : n ≡ q + k = omega (arith, at.0) in
            rw there (last_step based x y e last bound (subst (Continues based a x) here s))
      ] in
      step one (number_steps based last r n v at f is (omega arith) (step-boundary a w.utf8 based x m bound s))

  blank_stops : (based : Bool) → IsLast (Continues based b) (q + k)
  blank_stops based next (letter r) = false≢true (sym (blank_character a b p q k w is_continuing continuing-32 continuing-10 continuing-0 (q + k) refl) ∙ r.passes)
  blank_stops based next (point t d g m) = false≢true (sym (blank_fails a b p q k w (λ c. c == 46) refl refl refl (q + k) refl) ∙ ap (λ c. c == 46) d)
  blank_stops based next (sign t c (inl d) g m) = false≢true (sym (blank_fails a b p q k w (λ c. c == 43) refl refl refl (q + k) refl) ∙ ap (λ c. c == 43) d)
  blank_stops based next (sign t c (inr d) g m) = false≢true (sym (blank_fails a b p q k w (λ c. c == 45) refl refl refl (q + k) refl) ∙ ap (λ c. c == 45) d)

  pub number_same : (based : Bool) (x y : ℕ) → Spots x y → p < x → IsCharBoundary a x → Run (Continues based a) x (p + k) → Run (Continues based b) y (q + k)
  number_same based x y e low bound r = record {
    steps = number_steps based r.stop r.steps y (q + k) e (omega arith, omega arith) refl low bound;
    stop = blank_stops based;
  }

  -- the letter of a base is in the window

  base_letter : (c : ℕ) → (((c == 120) || (c == 111)) || (c == 98)) ≡ true → is_continuing c ≡ true
  unfolding is_continuing
  base_letter c e = elim (or_cases ((c == 120) || (c == 111)) (c == 98) e) [
    | inr f ↦ let g = eqb-true c 98 f in rw (g, is_xid_continue-ascii 98 (omega arith)) refl
    | inl r ↦ elim (or_cases (c == 120) (c == 111) r) [
      | inl f ↦ let g = eqb-true c 120 f in rw (g, is_xid_continue-ascii 120 (omega arith)) refl
      | inr f ↦ let g = eqb-true c 111 f in rw (g, is_xid_continue-ascii 111 (omega arith)) refl
    ]
  ]

  base_ascii : (c : ℕ) → (((c == 120) || (c == 111)) || (c == 98)) ≡ true → c < 128
  base_ascii c e = elim (or_cases ((c == 120) || (c == 111)) (c == 98) e) [
    | inr f ↦ let g = eqb-true c 98 f in omega arith
    | inl r ↦ elim (or_cases (c == 120) (c == 111) r) [ inl f ↦ let g = eqb-true c 120 f in omega arith | inr f ↦ let g = eqb-true c 111 f in omega arith ]
  ]

  no_base : (based : Bool) → IsLast (Continues based a) (p + 1) → has_base a p ≡ false
  unfolding has_base
  no_base based last =
      let c = get_or a (p + 1) 0 in
      let t = (get_or a p 0 == 48) && (((c == 120) || (c == 111)) || (c == 98)) in
      elim (cases_Bool t) [
        | inl e ↦ absurd (let g = and_parts (get_or a p 0 == 48) (((c == 120) || (c == 111)) || (c == 98)) e in
            last (past a (p + 1)) (letter_at based a (p + 1) (ap is_continuing (character-ascii a (p + 1) (base_ascii c g.1)) ∙ base_letter c g.1)))
        | inr e ↦ e
      ]

  base_blank : q + 1 ≡ q + k → has_base b q ≡ false
  unfolding has_base
  base_blank e = rw (blank_fails a b p q k w (λ c. c == 120) refl refl refl (q + 1) e, blank_fails a b p q k w (λ c. c == 111) refl refl refl (q + 1) e, blank_fails a b p q k w (λ c. c == 98) refl refl refl (q + 1) e)
      (elim (cases_Bool (get_or b q 0 == 48)) [ inl f ↦ rw f refl | inr f ↦ rw f refl ])

  base_inside : p + 1 < p + k → has_base b q ≡ has_base a p
  unfolding has_base
  base_inside l = rw (w.same p q (omega arith) (omega arith) (omega arith), w.same (p + 1) (q + 1) (omega arith) (omega arith) l) refl

  pub based_same : IsLast (Continues (has_base a p) a) (p + k) → has_base b q ≡ has_base a p
  based_same last = elim (cases_lt (p + 1) (p + k)) [
    | inl l ↦ base_inside l
    | inr l ↦ let e : p + k ≡ p + 1 = omega (arith, w.filled) in base_blank (omega arith) ∙ sym (no_base (has_base a p) (subst (IsLast (Continues (has_base a p) a)) e last))
  ]
