-- No byte of a text in a label ends the label.
use Rattle.std.proofs.Common.{◌≡◌, ◌≤◌, ◌<◌, ◌+◌, ◌-◌, ◌*◌, ◌/◌, ◌%◌, ◌^◌, ◌==◌, ◌&&◌, ◌||◌, not, ◌⊎◌, inl, inr, ℕ, zero, suc, Bool, true, false, cond, List, [], ◌∷◌, ◌++◌, length, get_or, encode_utf8, flat_map, codes, decimal, refl, sym, subst, arith, append-nil}
use Rattle.std.proofs.lemmas.Bool.{cases_eq, cases_lt, ne_eqb, le-leb, lt-leb, ltb-false, eqb-false}
use Rattle.std.proofs.lemmas.Fmt.{decimal_digit, decimal_step}
use Rattle.std.proofs.lemmas.Str.{inside_one}
use Rattle.std.specs.Prelude.{nat_le, nat_lt}
use Rattle.logos_page.specs.Shown.{is_unsafe, occur_in, shown_char}
use Rattle.logos_diagram.specs.Labels.{AreLabelBytes, coded, is_alphanumeric, is_between, is_coded, is_label_byte, is_plain, label_char}

-- one text after another
labels_both : (xs ys : List ℕ) → AreLabelBytes xs → AreLabelBytes ys → AreLabelBytes (xs ++ ys)
labels_both [] ys a b = b
labels_both (x ∷ xs) ys a b = (a.0, labels_both xs ys a.1 b)

-- byte by byte
labels_at : (xs : List ℕ) → ((k : ℕ) → k < length xs → is_label_byte (get_or xs k 0) ≡ true) → AreLabelBytes xs
labels_at [] h = tt
labels_at (x ∷ xs) h = (h 0 (omega arith), labels_at xs (λ k l. h (suc k) (omega (arith, l))))

-- a part of a character outside ASCII
last_true : (x a p u v : Bool) → (x || (a || (p || (u || (v || true))))) ≡ true
last_true true a p u v = refl
last_true false true p u v = refl
last_true false false true u v = refl
last_true false false false true v = refl
last_true false false false false true = refl
last_true false false false false false = refl

wide : (b : ℕ) → 128 ≤ b → is_label_byte b ≡ true
wide b l = rw (le-leb 128 b l) (last_true (b == 32) (is_alphanumeric b) (is_plain b) (b == 35) (b == 59))

-- a digit
or_true : (x : Bool) → (x || true) ≡ true
or_true true = refl
or_true false = refl

numeral : (b : ℕ) → 48 ≤ b → b ≤ 57 → is_label_byte b ≡ true
numeral b l m = rw (le-leb 48 b l, le-leb b 57 m) (or_true (b == 32))

digit : (d : ℕ) → d < 10 → is_label_byte (48 + d) ≡ true
digit d l = numeral (48 + d) (omega arith) (omega (arith, l))

-- a number
number : (most n : ℕ) → n ≤ most → n < 2 ^ 64 → (n < 10) ⊎ (10 ≤ n) → AreLabelBytes (decimal n)
number most n h l (inl low) = rw (decimal_digit n low) (digit n low, tt)
number zero n h l (inr high) = absurd (omega (arith, h, high))
number (suc most) n h l (inr high) =
    let part : n / 10 ≤ most = omega (arith, h, high) in
    let few : n / 10 < 2 ^ 64 = omega (arith, l) in
    let last : n % 10 < 10 = omega arith in
    rw (decimal_step n high l) (labels_both (decimal (n / 10)) ((48 + n % 10) ∷ []) (number most (n / 10) part few (cases_lt (n / 10) 10)) (digit (n % 10) last, tt))

-- an entity code
code_labels : (c : ℕ) → c < 128 → AreLabelBytes (coded c)
code_labels c l = (refl, labels_both (decimal c) (codes ";") (number c c (omega arith) (omega (arith, l)) (cases_lt c 10)) (refl, tt))

-- a blank, a letter, a digit or plain punctuation
other_true : (x a p y : Bool) → not (a || p) ≡ false → (x || (a || (p || y))) ≡ true
other_true true a p y h = refl
other_true false true p y h = refl
other_true false false true y h = refl
other_true false false false y h = absurd (cc)

plain : (c : ℕ) → is_coded c ≡ false → 32 ≤ c → c < 127 → is_label_byte c ≡ true
plain c h l m = go (cases_eq c 32)
  where
    go : (c ≡ 32) ⊎ (c ≡ 32 → ⊥) → is_label_byte c ≡ true
    go (inl e) = rw e refl
    go (inr n) =
        let no_code : not (is_alphanumeric c || is_plain c) ≡ false = rw (le-leb 33 c (omega (arith, l, n)), le-leb c 126 (omega (arith, m))) at h in
        other_true (c == 32) (is_alphanumeric c) (is_plain c) _ no_code

-- the character that is shown for one without an entity code
occurs : (c : ℕ) → is_coded c ≡ false → occur_in c < 128 → is_label_byte (occur_in c) ≡ true
occurs c h = go (nat_lt c 32) (c == 127) (is_unsafe c) refl refl
  where
    go : (x y z : Bool) → nat_lt c 32 ≡ x → (c == 127) ≡ y → cond x (0x2400 + c) (cond y 0x2421 (cond z 0xFFFD c)) < 128 → is_label_byte (cond x (0x2400 + c) (cond y 0x2421 (cond z 0xFFFD c))) ≡ true
    go true y z e f l = wide (0x2400 + c) (omega arith)
    go false true z e f l = refl
    go false false true e f l = refl
    go false false false e f l = plain c h (ltb-false c 32 e) (let other = eqb-false c 127 f in omega (arith, l, other))

encoded : (c : ℕ) → (c < 128 → is_label_byte c ≡ true) → AreLabelBytes (encode_utf8 c)
encoded c h = labels_at (encode_utf8 c) (λ k l. go k l (cases_lt (get_or (encode_utf8 c) k 0) 128))
  where
    go : (k : ℕ) → k < length (encode_utf8 c) → (get_or (encode_utf8 c) k 0 < 128) ⊎ (128 ≤ get_or (encode_utf8 c) k 0) → is_label_byte (get_or (encode_utf8 c) k 0) ≡ true
    go k l (inl low) =
        let same : c ≡ get_or (encode_utf8 c) k 0 = inside_one c [] (encode_utf8 c) k (sym (append-nil (encode_utf8 c))) l low in
        subst (λ b. is_label_byte b ≡ true) same (h (rw same low))
    go k l (inr high) = wide (get_or (encode_utf8 c) k 0) high

shown : (c : ℕ) → is_coded c ≡ false → AreLabelBytes (shown_char c)
shown c h = go (c == 9)
  where
    go : (x : Bool) → AreLabelBytes (cond x (codes "    ") (encode_utf8 (occur_in c)))
    go true = (refl, (refl, (refl, (refl, tt))))
    go false = encoded (occur_in c) (occurs c h)

-- a coded character is ASCII
below : (c : ℕ) → is_coded c ≡ true → c < 128
below c h = go (cases_lt c 128)
  where
    go : (c < 128) ⊎ (128 ≤ c) → c < 128
    go (inl l) = l
    go (inr l) = absurd (past (is_alphanumeric c || is_plain c) (nat_le 33 c) (nat_le c 126) (not_below l) h)
      where
        not_below : 128 ≤ c → nat_le c 126 ≡ false
        not_below m = lt-leb c 126 (omega (arith, m))

        past : (a x y : Bool) → y ≡ false → ((x && y) && not a) ≡ true → ⊥
        past a true true e f = cc
        past a true false e f = cc
        past a false y e f = cc

char_labels : (c : ℕ) → AreLabelBytes (label_char c)
char_labels c = go (is_coded c) refl
  where
    go : (x : Bool) → is_coded c ≡ x → AreLabelBytes (cond x (coded c) (shown_char c))
    go true e = code_labels c (below c e)
    go false e = shown c e

-- a text, character by character
pub text_labels : (cs : List ℕ) → AreLabelBytes (flat_map label_char cs)
text_labels [] = tt
text_labels (c ∷ cs) = labels_both (label_char c) (flat_map label_char cs) (char_labels c) (text_labels cs)
