-- Lexemes and gaps that end in a window end there in the second text.
use Rattle.std.proofs.Common.{◌≡◌, ◌≢◌, ℕ, ◌+◌, ◌-◌, ◌<◌, ◌≤◌, ◌⊎◌, inl, inr, Bool, false, List, length, get_or, refl, sym, ◌∙◌, ap, subst, arith}
use Rattle.std.proofs.lemmas.Bool.{cases_lt, false≢true}
use Rattle.std.specs.Char.{is_ascii_digit}
use Rattle.std.specs.Str.{IsCharBoundary}
use Rattle.logos_lexeme.specs.LexemeCharacters.{is_continuing}
use Rattle.logos_lexeme.specs.LexemeRuns.{Steps, here, step, IsLast, Run, IsFirst, Passes}
use Rattle.logos_lexeme.specs.LexemeEnds.{IsLineEnd, IsPair, Closes, closed, opens, closes, inside, Continues, letter, point, sign, InQuotes, escaped, plain, IsQuoted, IsRawEnd, IsRaw}
use Rattle.logos_lexeme.proofs.CharacterLaws.{past-boundary, past-moves}
use Rattle.logos_lexeme.proofs.RunLaws.{Steps-le}
use Rattle.logos_lexeme.proofs.EndLaws.{InQuotes-moves, Passes-moves, Closes-le}
use Rattle.logos_lexeme.proofs.again.PrintWindows.{Window, blank_character, same_character, same_past}

module _ (a b : List ℕ) (p q k : ℕ) (w : Window a b p q k) where
  -- offsets in the two texts
  abbrev At : ℕ → ℕ → Type 0
  At x y = (x + q ≡ y + p) × (p ≤ x)

  one_spot : (x y v : ℕ) → At x y → At x v → y ≡ v
  one_spot x y v e f = omega (arith, e.0, f.0)

  -- steps in the window, where each one has its step in the second text
  pub steps_same : (top : ℕ) (S T : ℕ → ℕ → Type 0) (keep : ℕ → Type 0) →
      ((x y z v : ℕ) → At x y → At z v → z ≤ top → keep x → S x z → T y v) → ((x z : ℕ) → keep x → S x z → keep z) → ((x z : ℕ) → S x z → x < z) →
      {x z : ℕ} → Steps S x z → (y v : ℕ) → At x y → At z v → z ≤ top → keep x → Steps T y v
  steps_same top S T keep one kept moves {x} here y v e f high h = let same : y ≡ v = one_spot x y v e f in subst (λ m. Steps T y m) same here
  steps_same top S T keep one kept moves {x} {z} (step {mid = m} s r) y v e f high h =
      let n = m + q - p in
      let ahead = moves x m s in
      let le = Steps-le S moves r in
      let at : At m n = (omega (arith, e.1, e.0), omega (arith, e.1)) in
      step (one x y m n e at (omega arith) h s) (steps_same top S T keep one kept moves r n v at f high (kept x m h s))

  -- quotes

  in_quotes : (quote : ℕ) (x y z v : ℕ) → At x y → At z v → z ≤ p + k → Unit {0} → InQuotes quote a x z → InQuotes quote b y v
  in_quotes quote x y z v e f high _ (escaped s m) = escaped (w.same x y e.0 e.1 (omega arith) ∙ s) (omega (arith, e.0, f.0))
  in_quotes quote x y z v e f high _ (plain i s t m) =
      let c = w.same x y e.0 e.1 (omega arith) in
      plain (omega (arith, e.0, w.holds)) (λ g. s (sym c ∙ g)) (λ g. t (sym c ∙ g)) (omega (arith, e.0, f.0))

  pub quoted_same : (quote : ℕ) (x y z v : ℕ) → At x y → At z v → z ≤ p + k → IsQuoted quote a x z → IsQuoted quote b y v
  quoted_same quote x y z v e f high r =
      let n = r.quote_at + q - p in
      let le = Steps-le (InQuotes quote a) (InQuotes-moves quote a) r.until.steps in
      let at : At r.quote_at n = (omega (arith, e.0, e.1), omega (arith, e.1)) in
      let after = r.after in
      record {
        quote_at = n;
        until = record {
          steps = steps_same (p + k) (InQuotes quote a) (InQuotes quote b) (λ _. Unit {0}) (in_quotes quote) (λ _ _ _ _. tt) (InQuotes-moves quote a) r.until.steps y n e at (omega arith) tt;
          stop = w.same r.quote_at n at.0 at.1 (omega arith) ∙ r.until.stop;
        };
        after = omega (arith, f.0, f.1, at.0, at.1);
      }

  -- raw strings

  raw_end_same : (count x y : ℕ) → At x y → x + count < p + k → IsRawEnd count a x → IsRawEnd count b y
  raw_end_same count x y e high r = record {
    quote = w.same x y e.0 e.1 (omega arith) ∙ r.quote;
    hashes = λ i l. w.same (x + 1 + i) (y + 1 + i) (omega (arith, e.0)) (omega (arith, e.1)) (omega arith) ∙ r.hashes i l;
  }

  raw_end_back : (count x y : ℕ) → At x y → x + count < p + k → IsRawEnd count b y → IsRawEnd count a x
  raw_end_back count x y e high r = record {
    quote = sym (w.same x y e.0 e.1 (omega arith)) ∙ r.quote;
    hashes = λ i l. sym (w.same (x + 1 + i) (y + 1 + i) (omega (arith, e.0)) (omega (arith, e.1)) (omega arith)) ∙ r.hashes i l;
  }

  pub raw_same : (count x y z v : ℕ) → At x y → At z v → z ≤ p + k → IsRaw count a x z → IsRaw count b y v
  raw_same count x y z v e f high r =
      let n = r.quote_at + q - p in
      let begun = r.first.begun in
      let after = r.after in
      let at : At r.quote_at n = (omega (arith, e.0, e.1), omega (arith, e.1)) in
      record {
        quote_at = n;
        first = record {
          begun = omega (arith, e.0, e.1);
          holds = raw_end_same count r.quote_at n at (omega arith) r.first.holds;
          first = λ i l m g. r.first.first (i + p - q) (omega (arith, e.0, e.1)) (omega (arith, e.0, e.1)) (raw_end_back count (i + p - q) i (omega (arith, e.0, e.1), omega (arith, e.0, e.1)) (omega (arith, e.0, e.1)) g);
        };
        after = omega (arith, f.0, f.1, at.0, at.1);
      }

  -- comments

  pair_same : (x y first second : ℕ) → At x y → x + 1 < p + k → IsPair a x first second → IsPair b y first second
  pair_same x y first second e high r = (w.same x y e.0 e.1 (omega arith) ∙ r.0, w.same (x + 1) (y + 1) (omega (arith, e.0)) (omega (arith, e.1)) high ∙ r.1)

  pair_back : (x y first second : ℕ) → At x y → x + 1 < p + k → IsPair b y first second → IsPair a x first second
  pair_back x y first second e high r = (sym (w.same x y e.0 e.1 (omega arith)) ∙ r.0, sym (w.same (x + 1) (y + 1) (omega (arith, e.0)) (omega (arith, e.1)) high) ∙ r.1)

  pub closes_long : (depth x z : ℕ) → Closes a depth x z → 0 < depth → x + 2 ≤ z
  closes_long depth x z closed l = absurd (omega arith)
  closes_long depth x z (opens h r s) l = omega (arith, Closes-le a _ _ _ s)
  closes_long depth x z (closes h r s) l = omega (arith, Closes-le a _ _ _ s)
  closes_long depth x z (inside h i f g s) l = omega (arith, closes_long _ _ _ s l)

  pub closes_same : (depth x y z v : ℕ) → Closes a depth x z → At x y → At z v → z ≤ p + k → Closes b depth y v
  closes_same depth x y z v closed e f high = let same : y ≡ v = one_spot x y v e f in subst (λ m. Closes b 0 y m) same closed
  closes_same depth x y z v (opens h r s) e f high =
      let le = Closes-le a _ _ _ s in
      opens h (pair_same x y 47 42 e (omega arith) r) (closes_same (depth + 1) (x + 2) (y + 2) z v s (omega (arith, e.0), omega (arith, e.1)) f high)
  closes_same depth x y z v (closes h r s) e f high =
      let le = Closes-le a _ _ _ s in
      closes h (pair_same x y 42 47 e (omega arith) r) (closes_same (depth - 1) (x + 2) (y + 2) z v s (omega (arith, e.0), omega (arith, e.1)) f high)
  closes_same depth x y z v (inside h i r t s) e f high =
      let le = closes_long _ _ _ s h in
      inside h (omega (arith, e.0, w.holds)) (λ g. r (pair_back x y 47 42 e (omega arith) g)) (λ g. t (pair_back x y 42 47 e (omega arith) g)) (closes_same depth (x + 1) (y + 1) z v s (omega (arith, e.0), omega (arith, e.1)) f high)

  -- characters

  pub passes_same : (test : ℕ → Bool) (x y z v : ℕ) → At x y → At z v → z ≤ p + k → IsCharBoundary a x → Passes test a x z → Passes test b y v
  passes_same test x y z v e f high bound r =
      let moves = r.moves in
      let ahead = past-moves a x in
      let c = same_character a b p q k w x y e.0 e.1 (omega arith) bound in
      record {
        inside = omega (arith, e.0, w.holds);
        passes = ap test c ∙ r.passes;
        moves = omega (arith, f.0, same_past a b p q k w x y e.0 e.1 (omega arith) bound);
      }

  pub passes_kept : (test : ℕ → Bool) (x z : ℕ) → IsCharBoundary a x → Passes test a x z → IsCharBoundary a z
  passes_kept test x z bound r = rw r.moves (past-boundary a x w.utf8 bound r.inside)

  -- nothing continues after the window
  blank_last : (test : ℕ → Bool) → test 32 ≡ false → test 10 ≡ false → test 0 ≡ false → (v : ℕ) → v ≡ q + k → IsLast (Passes test b) v
  blank_last test s l n v e next r = false≢true (sym (blank_character a b p q k w test s l n v e) ∙ r.passes)

  pub run_same : (test : ℕ → Bool) → test 32 ≡ false → test 10 ≡ false → test 0 ≡ false → (x y : ℕ) → At x y → IsCharBoundary a x → Run (Passes test a) x (p + k) → Run (Passes test b) y (q + k)
  run_same test s l n x y e bound r = record {
    steps = steps_same (p + k) (Passes test a) (Passes test b) (IsCharBoundary a) (passes_same test) (passes_kept test) (Passes-moves test a) r.steps y (q + k) e (omega arith, omega arith) (omega arith) bound;
    stop = blank_last test s l n (q + k) refl;
  }

  -- numbers

  pub continues_same : (based : Bool) → (x y z v : ℕ) → At x y → At z v → z < p + k → p < x → IsCharBoundary a x → Continues based a x z → Continues based b y v
  continues_same based x y z v e f high low bound (letter r) = letter (passes_same is_continuing x y z v e f (omega arith) bound r)
  continues_same based x y z v e f high low bound (point t d g m) =
      point t (w.same x y e.0 e.1 (omega arith) ∙ d) (ap is_ascii_digit (w.same (x + 1) (y + 1) (omega (arith, e.0)) (omega (arith, e.1)) (omega arith)) ∙ g) (omega (arith, e.0, f.0))
  continues_same based x y z v e f high low bound (sign t c d g m) =
      let here = w.same x y e.0 e.1 (omega arith) in
      let front = w.same (x - 1) (y - 1) (omega (arith, e.0)) (omega arith) (omega arith) in
      sign t (elim c [ inl i ↦ inl (front ∙ i) | inr i ↦ inr (front ∙ i) ]) (elim d [ inl i ↦ inl (here ∙ i) | inr i ↦ inr (here ∙ i) ])
      (ap is_ascii_digit (w.same (x + 1) (y + 1) (omega (arith, e.0)) (omega (arith, e.1)) (omega arith)) ∙ g) (omega (arith, e.0, f.0))

  -- line ends

  pub line_same : (x y : ℕ) → At x y → (get_or b (q + k) 0 ≡ 10) ⊎ (q + k ≡ length b) → IsFirst (IsLineEnd a) x (p + k) → IsFirst (IsLineEnd b) y (q + k)
  line_same x y e last r =
      let begun = r.begun in
      let no_feed : (i : ℕ) → x ≤ i → i < p + k → get_or a i 0 ≢ 10 = λ i l m g. r.first i l m (record { feed = i; begun = omega arith; returns = λ j s t. absurd (omega arith); closes = inr g }) in
      record {
        begun = omega (arith, e.0);
        holds = record { feed = q + k; begun = omega arith; returns = λ i l m. absurd (omega arith); closes = elim last [ inl g ↦ inr g | inr g ↦ inl g ] };
        first = λ j l m r'. no_end x y e last r no_feed j l m r' r'.closes;
      }
    where
      no_end : (x y : ℕ) → At x y → (get_or b (q + k) 0 ≡ 10) ⊎ (q + k ≡ length b) → IsFirst (IsLineEnd a) x (p + k) → ((i : ℕ) → x ≤ i → i < p + k → get_or a i 0 ≢ 10) → (j : ℕ) → y ≤ j → j < q + k → (r' : IsLineEnd b j) →
          ((r'.feed ≡ length b) ⊎ (get_or b r'.feed 0 ≡ 10)) → ⊥
      no_end x y e last r no_feed j l m r' c =
          let begun = r'.begun in
          elim (cases_lt r'.feed (q + k)) [
            | inl s ↦ elim c [
              | inl g ↦ omega (arith, w.holds)
              | inr g ↦ let i = r'.feed + p - q in no_feed i (omega (arith, e.0, e.1)) (omega (arith, e.0, e.1)) (sym (w.same i r'.feed (omega (arith, e.0, e.1)) (omega (arith, e.0, e.1)) (omega (arith, e.0, e.1))) ∙ g)
            ]
            | inr s ↦
                let i = j + p - q in
                let returns : (h : ℕ) → i ≤ h → h < p + k → get_or a h 0 ≡ 13 = λ h t u. let n = h + q - p in sym (w.same h n (omega (arith, e.0, e.1)) (omega (arith, e.0, e.1)) u) ∙ r'.returns n (omega (arith, e.0, e.1)) (omega (arith, e.0, e.1)) in
                r.first i (omega (arith, e.0, e.1)) (omega (arith, e.0, e.1)) (record {
                  feed = r.holds.feed;
                  begun = let g = r.holds.begun in omega (arith, e.0, e.1);
                  returns = λ h t u. elim (cases_lt h (p + k)) [ inl o ↦ returns h t o | inr o ↦ r.holds.returns h o u ];
                  closes = r.holds.closes;
                })
          ]
