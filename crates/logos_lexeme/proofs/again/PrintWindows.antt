-- Two texts with equal bytes from two offsets on, and with a space, a line feed or nothing after
-- them in the second text.
use Rattle.std.proofs.Common.{◌≡◌, ℕ, ◌+◌, ◌-◌, ◌<◌, ◌≤◌, ◌⊎◌, inl, inr, Bool, false, List, ◌∷◌, ◌++◌, length, get_or, take, drop, slice_range, IsUtf8, encode_utf8, length-append, sym, ◌∙◌, ap, arith, take-append-drop, ext_get_or}
use Rattle.std.proofs.lemmas.List.{get_or_past}
use Rattle.std.proofs.lemmas.List.Edits.{length-between, get_or-between}
use Rattle.std.proofs.lemmas.Str.{chars-append, chars_past_char, IsUtf8-between, length-encode}
use Rattle.std.specs.Char.{len_utf8}
use Rattle.std.specs.Str.{IsCharBoundary, chars as chars_of}
use Rattle.logos_lexeme.specs.LexemeCharacters.{character, past}
use Rattle.logos_lexeme.proofs.CharacterLaws.{character-ascii, first_char}

-- a text begins with the character that the text in front of it begins with
head_of_text : (front rest text : List ℕ) → IsUtf8 front → 0 < length front → text ≡ front ++ rest → get_or (chars_of text) 0 0 ≡ get_or (chars_of front) 0 0
head_of_text front rest text utf8 filled e =
    let f = first_char front utf8 filled in
    let cs : chars_of front ≡ f.0 ∷ chars_of f.1 = chars_past_char front f.1 f.0 utf8 f.2 in
    let whole : chars_of text ≡ chars_of front ++ chars_of rest = ap chars_of e ∙ chars-append front rest utf8 in
    let head : chars_of text ≡ f.0 ∷ (chars_of f.1 ++ chars_of rest) = whole ∙ ap (λ xs. xs ++ chars_of rest) cs in
    ap (λ (xs : List ℕ). get_or xs 0 0) head ∙ sym (ap (λ (xs : List ℕ). get_or xs 0 0) cs)

-- the first character is inside
head_fits : (front : List ℕ) → IsUtf8 front → 0 < length front → len_utf8 (get_or (chars_of front) 0 0) ≤ length front
head_fits front utf8 filled =
    let f = first_char front utf8 filled in
    let c : get_or (chars_of front) 0 0 ≡ f.0 = ap (λ (xs : List ℕ). get_or xs 0 0) (chars_past_char front f.1 f.0 utf8 f.2) in
    rw c (omega (arith, ap length f.2, length-append (encode_utf8 f.0) f.1, length-encode f.0))

-- this number of bytes of the first text from `p` on are those of the second one from `q` on, and
-- the window ends there
pub record Window (a b : List ℕ) (p q k : ℕ) : Type 0 where
  pub utf8 : IsUtf8 a
  pub ends : IsCharBoundary a (p + k)
  pub filled : 0 < k
  pub fits : p + k ≤ length a
  pub holds : q + k ≤ length b
  pub same : (x y : ℕ) → x + q ≡ y + p → p ≤ x → x < p + k → get_or b y 0 ≡ get_or a x 0
  pub blank : (get_or b (q + k) 0 ≡ 32) ⊎ ((get_or b (q + k) 0 ≡ 10) ⊎ (q + k ≡ length b))

module _ (a b : List ℕ) (p q k : ℕ) (w : Window a b p q k) where
  -- a test that a space, a line feed and 0 fail fails after the window
  pub blank_fails : (test : ℕ → Bool) → test 32 ≡ false → test 10 ≡ false → test 0 ≡ false → (y : ℕ) → y ≡ q + k → test (get_or b y 0) ≡ false
  blank_fails test s l n y e = rw e (elim w.blank [
    | inl f ↦ ap test f ∙ s
    | inr r ↦ elim r [
      | inl f ↦ ap test f ∙ l
      | inr f ↦ ap test (get_or_past b (q + k) 0 (omega arith)) ∙ n
    ]
  ])

  -- the byte after the window is no other one
  pub blank_byte : (y : ℕ) → y ≡ q + k → (get_or b y 0 ≡ 32) ⊎ ((get_or b y 0 ≡ 10) ⊎ (get_or b y 0 ≡ 0))
  blank_byte y e = rw e (elim w.blank [
    | inl f ↦ inl f
    | inr r ↦ elim r [ inl f ↦ inr (inl f) | inr f ↦ inr (inr (get_or_past b (q + k) 0 (omega arith))) ]
  ])

  pub blank_is_ascii : (y : ℕ) → y ≡ q + k → get_or b y 0 < 128
  blank_is_ascii y e = elim (blank_byte y e) [
    | inl f ↦ omega arith
    | inr r ↦ elim r [ inl f ↦ omega arith | inr f ↦ omega arith ]
  ]

  -- and so of characters
  pub blank_character : (test : ℕ → Bool) → test 32 ≡ false → test 10 ≡ false → test 0 ≡ false → (y : ℕ) → y ≡ q + k → test (character b y) ≡ false
  blank_character test s l n y e = ap test (character-ascii b y (blank_is_ascii y e)) ∙ blank_fails test s l n y e

  -- bytes in a row are the same
  pub same_range : (x y n : ℕ) → x + q ≡ y + p → p ≤ x → x + n ≤ p + k → take n (drop y b) ≡ take n (drop x a)
  same_range x y n e low high =
      let f : x + n - x ≡ n = omega arith in
      let g : y + n - y ≡ n = omega arith in
      let xs : length (slice_range a x (x + n)) ≡ x + n - x = length-between a x (x + n) (omega (arith, w.fits)) in
      let ys : length (slice_range b y (y + n)) ≡ y + n - y = length-between b y (y + n) (omega (arith, w.holds)) in
      let whole : slice_range b y (y + n) ≡ slice_range a x (x + n) =
      ext_get_or 0 (slice_range b y (y + n)) (slice_range a x (x + n)) (omega (arith, xs, ys)) (λ i l.
      get_or-between b y (y + n) i 0 (omega (arith, ys)) ∙ w.same (x + i) (y + i) (omega arith) (omega arith) (omega (arith, ys)) ∙ sym (get_or-between a x (x + n) i 0 (omega (arith, ys)))) in
      ap (λ m. take m (drop y b)) (sym g) ∙ whole ∙ ap (λ m. take m (drop x a)) f

  pub same_slice : (x y z v : ℕ) → x + q ≡ y + p → z + q ≡ v + p → p ≤ x → z ≤ p + k → x ≤ z → slice_range b y v ≡ slice_range a x z
  same_slice x y z v e f low high le = let g : v - y ≡ z - x = omega arith in rw g (same_range x y (z - x) e low (omega arith))

  -- characters in the window are the same

  front_filled : (x : ℕ) → p ≤ x → x < p + k → length (take (p + k - x) (drop x a)) ≡ p + k - x
  front_filled x low high = length-between a x (p + k) w.fits

  front_utf8 : (x : ℕ) → x < p + k → IsCharBoundary a x → IsUtf8 (take (p + k - x) (drop x a))
  front_utf8 x high bound = IsUtf8-between a x (p + k) w.utf8 (omega arith) bound w.ends

  front_character : (x : ℕ) → p ≤ x → x < p + k → IsCharBoundary a x → character a x ≡ get_or (chars_of (take (p + k - x) (drop x a))) 0 0
  unfolding character
  front_character x low high bound = head_of_text (take (p + k - x) (drop x a)) (drop (p + k - x) (drop x a)) (drop x a) (front_utf8 x high bound) (omega (arith, front_filled x low high)) (sym (take-append-drop (p + k - x) (drop x a)))

  other_character : (x y : ℕ) → x + q ≡ y + p → p ≤ x → x < p + k → IsCharBoundary a x → character b y ≡ get_or (chars_of (take (p + k - x) (drop x a))) 0 0
  unfolding character
  other_character x y e low high bound =
      let n = p + k - x in
      head_of_text (take n (drop x a)) (drop n (drop y b)) (drop y b) (front_utf8 x high bound) (omega (arith, front_filled x low high))
      (sym (take-append-drop n (drop y b)) ∙ ap (λ xs. xs ++ drop n (drop y b)) (same_range x y n e low (omega arith)))

  pub same_character : (x y : ℕ) → x + q ≡ y + p → p ≤ x → x < p + k → IsCharBoundary a x → character b y ≡ character a x
  same_character x y e low high bound = other_character x y e low high bound ∙ sym (front_character x low high bound)

  pub past_within : (x : ℕ) → p ≤ x → x < p + k → IsCharBoundary a x → past a x ≤ p + k
  past_within x low high bound =
      let n = p + k - x in
      let c = front_character x low high bound in
      let f = head_fits (take n (drop x a)) (front_utf8 x high bound) (omega (arith, front_filled x low high)) in
      let g : len_utf8 (character a x) ≤ p + k - x = rw c (omega (arith, f, front_filled x low high)) in
      omega (arith, g)

  pub same_past : (x y : ℕ) → x + q ≡ y + p → p ≤ x → x < p + k → IsCharBoundary a x → past a x + q ≡ past b y + p
  same_past x y e low high bound = omega (arith, ap len_utf8 (same_character x y e low high bound))
