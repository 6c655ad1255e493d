-- Lexemes and gaps that open in a window open in the second text.
use Rattle.std.proofs.Common.{◌≡◌, ◌≢◌, ℕ, ◌+◌, ◌-◌, ◌<◌, ◌≤◌, ◌==◌, ◌&&◌, nat_le, inl, inr, Bool, true, false, cond, Option, Some, None, List, length, get_or, drop, length-drop, get_or-drop, refl, sym, ◌∙◌, ap, arith}
use Rattle.std.proofs.lemmas.Bool.{cases_lt, cases_Bool, eqb-true, eq-eqb, ne_eqb, false≢true, and_right, cond-true, cond-false}
use Rattle.std.proofs.lemmas.List.Sums.{prefix_len_is, prefix_len_passes, prefix_len_stops}
use Rattle.std.proofs.Math.Nat.{eq-or-lt_of_le}
use Rattle.std.specs.List.{prefix_len}
use Rattle.std.specs.Char.{is_ascii_digit}
use Rattle.std.specs.Str.{IsCharBoundary}
use Rattle.logos_lexeme.specs.LexemeCharacters.{past}
use Rattle.logos_lexeme.specs.LexemeOpenings.{hashes, raw_opening, string_opening, character_opening, bytes_opening, literal_opening, prefix_of}
use Rattle.logos_lexeme.specs.declared.lexeme.openings.Content.{Content}
use Rattle.logos_lexeme.specs.declared.lexeme.openings.Content.TheVariants.{Text, Bytes, C}
use Rattle.logos_lexeme.specs.declared.lexeme.openings.Opening.{Opening}
use Rattle.logos_lexeme.specs.declared.lexeme.openings.Opening.TheVariants.{Number, Quotes, Raw, Apostrophes, Character}
use Rattle.logos_lexeme.proofs.CharacterLaws.{inside_from_byte}
use Rattle.logos_lexeme.proofs.again.PrintWindows.{Window, blank_fails, same_past, past_within}

-- this number of `#` is followed by another byte
hashes_are : (bytes : List ℕ) (at n : ℕ) → ((i : ℕ) → i < n → get_or bytes (at + i) 0 ≡ 35) → get_or bytes (at + n) 0 ≢ 35 → at ≤ length bytes → hashes bytes at ≡ n
unfolding hashes
hashes_are bytes at n all other inside =
    let le : n ≤ length (drop at bytes) = elim (cases_lt 0 n) [
      | inl l ↦ let h = all (n - 1) (omega arith) in let i = inside_from_byte bytes (at + (n - 1)) (omega arith) in omega (arith, length-drop at bytes)
      | inr l ↦ omega arith
    ] in
    prefix_len_is (λ c. c == 35) (drop at bytes) n 0 le
    (λ i l. ap (λ c. c == 35) (get_or-drop at bytes i 0) ∙ eq-eqb (get_or bytes (at + i) 0) 35 (all i l))
    (λ l. ap (λ c. c == 35) (get_or-drop at bytes n 0) ∙ ne_eqb (get_or bytes (at + n) 0) 35 other)

other_after : (bytes : List ℕ) (at : ℕ) → get_or bytes (at + hashes bytes at) 0 ≢ 35
unfolding hashes
other_after bytes at e =
    let n = prefix_len (λ c. c == 35) (drop at bytes) in
    let inside = inside_from_byte bytes (at + n) (omega arith) in
    let stops = prefix_len_stops (λ c. c == 35) (drop at bytes) 0 (omega (arith, length-drop at bytes)) in
    false≢true (sym stops ∙ ap (λ c. c == 35) (get_or-drop at bytes n 0) ∙ eq-eqb (get_or bytes (at + n) 0) 35 e)

all_hashes : (bytes : List ℕ) (at i : ℕ) → i < hashes bytes at → get_or bytes (at + i) 0 ≡ 35
unfolding hashes
all_hashes bytes at i l = eqb-true (get_or bytes (at + i) 0) 35 (ap (λ c. c == 35) (sym (get_or-drop at bytes i 0)) ∙ prefix_len_passes (λ c. c == 35) (drop at bytes) i 0 l)

-- the two tests have the same results
cond_same : {A : Type 0} (t : Bool) (x y z v : A) → (t ≡ true → x ≡ z) → (t ≡ false → y ≡ v) → cond t x y ≡ cond t z v
cond_same true x y z v f g = f refl
cond_same false x y z v f g = g refl

-- the greatest end of the characters with which a literal opens
abbrev pub head_end : List ℕ → ℕ → Opening → ℕ
head_end bytes from (Quotes content) = from + prefix_of content + 1
head_end bytes from (Raw content count) = from + prefix_of content + 1 + count + 1
head_end bytes from (Apostrophes content) = from + prefix_of content + 2
head_end bytes from Character = past bytes (from + 1) + 1
head_end bytes from _ = from + 1

-- an opening, if there is one, ends before an offset
abbrev Heads : List ℕ → ℕ → ℕ → Option Opening → Type 0
Heads bytes from to o = (opening : Opening) → o ≡ Some opening → head_end bytes from opening ≤ to

heads-true : (bytes : List ℕ) (from to : ℕ) (t : Bool) (x y : Option Opening) → Heads bytes from to (cond t x y) → t ≡ true → Heads bytes from to x
heads-true bytes from to t x y h e opening is = h opening (cond-true t x y e ∙ is)

heads-false : (bytes : List ℕ) (from to : ℕ) (t : Bool) (x y : Option Opening) → Heads bytes from to (cond t x y) → t ≡ false → Heads bytes from to y
heads-false bytes from to t x y h e opening is = h opening (cond-false t x y e ∙ is)

abbrev raw_test : List ℕ → ℕ → ℕ → Bool
raw_test bytes at count = nat_le count 255 && (get_or bytes (at + count) 0 == 34)

module _ (a b : List ℕ) (p q k : ℕ) (w : Window a b p q k) where
  -- `#` up to the window's end, and none after it
  hashes_cut : (x y : ℕ) → x + q ≡ y + p → p ≤ x → x ≤ p + k → p + k ≤ x + hashes a x → y + hashes b y ≡ q + k
  hashes_cut x y e low high long =
      let n = q + k - y in
      let other : get_or b (y + n) 0 ≢ 35 = λ f. false≢true (sym (blank_fails a b p q k w (λ c. c == 35) refl refl refl (y + n) (omega arith)) ∙ eq-eqb (get_or b (y + n) 0) 35 f) in
      let h = hashes_are b y n (λ i l. w.same (x + i) (y + i) (omega arith) (omega arith) (omega arith) ∙ all_hashes a x i (omega arith)) other (omega (arith, w.holds)) in
      omega arith

  raw_late : (content : Content) (x : ℕ) → x ≡ p + prefix_of content + 1 → p + k ≤ x + hashes a x → Heads a p (p + k) (raw_opening content a x) → raw_opening content a x ≡ None
  unfolding raw_opening
  raw_late content x is long fit =
      let n = hashes a x in
      elim (cases_Bool (raw_test a x n)) [
        | inl t ↦ absurd (let f = fit (Raw content n) (cond-true (raw_test a x n) (Some (Raw content n)) None t) in omega arith)
        | inr t ↦ cond-false (raw_test a x n) (Some (Raw content n)) None t
      ]

  raw_cut : (content : Content) (x y : ℕ) → x + q ≡ y + p → p ≤ x → x ≤ p + k → p + k ≤ x + hashes a x → raw_opening content b y ≡ None
  unfolding raw_opening
  raw_cut content x y e low high long =
      let n = hashes b y in
      cond-false (raw_test b y n) (Some (Raw content n)) None (and_right (nat_le n 255) (get_or b (y + n) 0 == 34) (blank_fails a b p q k w (λ c. c == 34) refl refl refl (y + n) (hashes_cut x y e low high long)))

  raw_inside : (content : Content) (x y : ℕ) → x + q ≡ y + p → p ≤ x → x + hashes a x < p + k → raw_opening content b y ≡ raw_opening content a x
  unfolding raw_opening
  raw_inside content x y e low l =
      let n = hashes a x in
      let byte : get_or b (y + n) 0 ≡ get_or a (x + n) 0 = w.same (x + n) (y + n) (omega arith) (omega arith) l in
      let h : hashes b y ≡ hashes a x = hashes_are b y n (λ i m. w.same (x + i) (y + i) (omega arith) (omega arith) (omega arith) ∙ all_hashes a x i m) (λ f. other_after a x (sym byte ∙ f)) (omega (arith, w.holds)) in
      rw (h, byte) refl

  raw_same : (content : Content) (x y : ℕ) → x + q ≡ y + p → x ≡ p + prefix_of content + 1 → x ≤ p + k → Heads a p (p + k) (raw_opening content a x) → raw_opening content b y ≡ raw_opening content a x
  raw_same content x y e is high fit = elim (cases_lt (x + hashes a x) (p + k)) [
    | inl l ↦ raw_inside content x y e (omega arith) l
    | inr l ↦ raw_cut content x y e (omega arith) high l ∙ sym (raw_late content x is l fit)
  ]

  string_late : (content : Content) (x : ℕ) → x ≡ p + prefix_of content → p + k ≤ x → Heads a p (p + k) (string_opening content a x) → string_opening content a x ≡ None
  unfolding string_opening
  string_late content x is late fit =
      let s = get_or a x 0 == 34 in
      let r = get_or a x 0 == 114 in
      let raw = raw_opening content a (x + 1) in
      elim (cases_Bool s) [
        | inl t ↦ absurd (let f = fit (Quotes content) (cond-true s (Some (Quotes content)) (cond r raw None) t) in omega arith)
        | inr t ↦ cond-false s (Some (Quotes content)) (cond r raw None) t ∙ elim (cases_Bool r) [
          | inl u ↦ cond-true r raw None u ∙ raw_late content (x + 1) (omega arith) (omega arith) (heads-true a p (p + k) r raw None (heads-false a p (p + k) s (Some (Quotes content)) (cond r raw None) fit t) u)
          | inr u ↦ cond-false r raw None u
        ]
      ]

  string_blank : (content : Content) (y : ℕ) → y ≡ q + k → string_opening content b y ≡ None
  unfolding string_opening
  string_blank content y e = rw (blank_fails a b p q k w (λ c. c == 34) refl refl refl y e, blank_fails a b p q k w (λ c. c == 114) refl refl refl y e) refl

  string_inside : (content : Content) (x y : ℕ) → x + q ≡ y + p → x ≡ p + prefix_of content → x < p + k → Heads a p (p + k) (string_opening content a x) → string_opening content b y ≡ string_opening content a x
  unfolding string_opening
  string_inside content x y e is l fit =
      let s = get_or a x 0 == 34 in
      let r = get_or a x 0 == 114 in
      let raw = raw_opening content a (x + 1) in
      rw (w.same x y e (omega arith) l) (cond_same s _ _ _ _ (λ t. refl) (λ t. cond_same r _ _ _ _
      (λ u. raw_same content (x + 1) (y + 1) (omega arith) (omega arith) (omega arith) (heads-true a p (p + k) r raw None (heads-false a p (p + k) s (Some (Quotes content)) (cond r raw None) fit t) u)) (λ u. refl)))

  string_same : (content : Content) (x y : ℕ) → x + q ≡ y + p → x ≡ p + prefix_of content → x ≤ p + k → Heads a p (p + k) (string_opening content a x) → string_opening content b y ≡ string_opening content a x
  string_same content x y e is high fit = elim (cases_lt x (p + k)) [
    | inl l ↦ string_inside content x y e is l fit
    | inr l ↦ string_blank content y (omega arith) ∙ sym (string_late content x is l fit)
  ]

  bytes_late : p + k ≤ p + 1 → Heads a p (p + k) (bytes_opening a (p + 1)) → bytes_opening a (p + 1) ≡ None
  unfolding bytes_opening
  bytes_late late fit =
      let s = get_or a (p + 1) 0 == 39 in
      let string = string_opening Bytes a (p + 1) in
      elim (cases_Bool s) [
        | inl t ↦ absurd (let f = fit (Apostrophes Bytes) (cond-true s (Some (Apostrophes Bytes)) string t) in omega arith)
        | inr t ↦ cond-false s (Some (Apostrophes Bytes)) string t ∙ string_late Bytes (p + 1) refl late (heads-false a p (p + k) s (Some (Apostrophes Bytes)) string fit t)
      ]

  bytes_blank : q + 1 ≡ q + k → bytes_opening b (q + 1) ≡ None
  unfolding bytes_opening
  bytes_blank e = rw (blank_fails a b p q k w (λ c. c == 39) refl refl refl (q + 1) e, string_blank Bytes (q + 1) e) refl

  bytes_inside : p + 1 < p + k → Heads a p (p + k) (bytes_opening a (p + 1)) → bytes_opening b (q + 1) ≡ bytes_opening a (p + 1)
  unfolding bytes_opening
  bytes_inside l fit =
      let s = get_or a (p + 1) 0 == 39 in
      rw (w.same (p + 1) (q + 1) (omega arith) (omega arith) l) (cond_same s _ _ _ _ (λ t. refl) (λ t.
      string_same Bytes (p + 1) (q + 1) (omega arith) refl (omega arith) (heads-false a p (p + k) s (Some (Apostrophes Bytes)) (string_opening Bytes a (p + 1)) fit t)))

  bytes_same : Heads a p (p + k) (bytes_opening a (p + 1)) → bytes_opening b (q + 1) ≡ bytes_opening a (p + 1)
  bytes_same fit = elim (cases_lt (p + 1) (p + k)) [
    | inl l ↦ bytes_inside l fit
    | inr l ↦ bytes_blank (let f = w.filled in omega arith) ∙ sym (bytes_late l fit)
  ]

  -- the byte after a character
  quote_same : (x y : ℕ) → x + q ≡ y + p → p ≤ x → x ≤ p + k → (x ≡ p + k → (get_or a x 0 == 39) ≡ false) → (get_or b y 0 == 39) ≡ (get_or a x 0 == 39)
  quote_same x y e low high last = elim (eq-or-lt_of_le high) [
    | inl f ↦ blank_fails a b p q k w (λ c. c == 39) refl refl refl y (omega arith) ∙ sym (last f)
    | inr l ↦ ap (λ c. c == 39) (w.same x y e low l)
  ]

  character_same : IsCharBoundary a (p + 1) → p + 1 < p + k → Heads a p (p + k) (character_opening a (p + 1)) → character_opening b (q + 1) ≡ character_opening a (p + 1)
  unfolding character_opening
  character_same bound l fit =
      let s = get_or a (p + 1) 0 == 92 in
      let r = get_or a (past a (p + 1)) 0 == 39 in
      let fail : (get_or a (p + 1) 0 == 92) ≡ false → past a (p + 1) ≡ p + k → r ≡ false = λ t f. elim (cases_Bool r) [
        | inl u ↦ absurd (let g = fit Character (cond-false s (Some (Apostrophes Text)) (cond r (Some Character) None) t ∙ cond-true r (Some Character) None u) in omega arith)
        | inr u ↦ u
      ] in
      rw (w.same (p + 1) (q + 1) (omega arith) (omega arith) l) (cond_same s _ _ _ _ (λ t. refl) (λ t.
      ap (λ v. cond v (Some Character) None) (quote_same (past a (p + 1)) (past b (q + 1)) (same_past a b p q k w (p + 1) (q + 1) (omega arith) (omega arith) l bound) (omega arith) (past_within a b p q k w (p + 1) (omega arith) l bound) (fail t))))

  -- a literal opens where it did, or none
  pub literal_same : (get_or a p 0 ≡ 39 → IsCharBoundary a (p + 1) × (p + 1 < p + k)) → Heads a p (p + k) (literal_opening a p) → literal_opening b q ≡ literal_opening a p
  unfolding literal_opening
  literal_same quote fit =
      let c = get_or a p 0 in
      let n = Some Number in
      let d = is_ascii_digit c in
      let after_c = cond (c == 99) (string_opening C a (p + 1)) (string_opening Text a p) in
      let after_b = cond (c == 98) (bytes_opening a (p + 1)) after_c in
      let after_q = cond (c == 39) (character_opening a (p + 1)) after_b in
      let f0 : d ≡ false → Heads a p (p + k) after_q = heads-false a p (p + k) d n after_q fit in
      let f1 : d ≡ false → (c == 39) ≡ false → Heads a p (p + k) after_b = λ t. heads-false a p (p + k) (c == 39) (character_opening a (p + 1)) after_b (f0 t) in
      let f2 : d ≡ false → (c == 39) ≡ false → (c == 98) ≡ false → Heads a p (p + k) after_c = λ t u. heads-false a p (p + k) (c == 98) (bytes_opening a (p + 1)) after_c (f1 t u) in
      rw (w.same p q (omega arith) (omega arith) (omega (arith, w.filled)))
      (cond_same d _ _ _ _ (λ t. refl) (λ t.
      cond_same (c == 39) _ _ _ _ (λ u. let h = quote (eqb-true c 39 u) in character_same h.0 h.1 (heads-true a p (p + k) (c == 39) (character_opening a (p + 1)) after_b (f0 t) u)) (λ u.
      cond_same (c == 98) _ _ _ _ (λ v. bytes_same (heads-true a p (p + k) (c == 98) (bytes_opening a (p + 1)) after_c (f1 t u) v)) (λ v.
      cond_same (c == 99) _ _ _ _ (λ s. string_same C (p + 1) (q + 1) (omega arith) refl (omega (arith, w.filled)) (heads-true a p (p + k) (c == 99) (string_opening C a (p + 1)) (string_opening Text a p) (f2 t u v) s)) (λ s.
      string_same Text p q (omega arith) (omega arith) (omega arith) (heads-false a p (p + k) (c == 99) (string_opening C a (p + 1)) (string_opening Text a p) (f2 t u v) s))))))
