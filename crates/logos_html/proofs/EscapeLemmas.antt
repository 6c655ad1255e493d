-- A browser reads an escaped text as the shown one.
use Rattle.std.proofs.Common.{◌≡◌, ◌≤◌, ◌<◌, ◌+◌, ◌==◌, ◌⊎◌, inl, inr, ℕ, Bool, true, false, cond, List, [], ◌∷◌, ◌++◌, length, get_or, encode_utf8, flat_map, codes, refl, sym, subst, arith, append_assoc, append-nil}
use Rattle.std.proofs.lemmas.Bool.{cases_eq, cases_lt, ne_eqb}
use Rattle.std.proofs.lemmas.Grind.{common_steps}
use Rattle.std.proofs.lemmas.Str.{encode_ascii, inside_one}
use Rattle.std.specs.Prelude.{nat_lt}
use Rattle.logos_page.specs.Shown.{is_unsafe, occur_in, shown_char}
use Rattle.logos_html.specs.Escapes.{IsReference, ReadsAs, ampersand, apostrophe, ends, escaped_char, escaped_line_char, greater, is_plain, itself, less, quote, reference, shown_line_char}

-- one text after another
pub reads_both : {one text other more : List ℕ} → ReadsAs one text → ReadsAs other more → ReadsAs (one ++ other) (text ++ more)
reads_both ends s = s
reads_both {other = other} (itself byte html text p r) s = itself byte (html ++ other) _ p (reads_both r s)
reads_both {other = other} {more = more} (reference name c html text n r) s =
    subst (λ h. ReadsAs h (c ∷ (text ++ more))) (sym (append_assoc name html other)) (reference name c (html ++ other) (text ++ more) n (reads_both r s))

-- a reference alone
one_reference : (name : List ℕ) (c : ℕ) → IsReference name c → ReadsAs name (c ∷ [])
one_reference name c n = subst (λ h. ReadsAs h (c ∷ [])) (append-nil name) (reference name c [] [] n ends)

-- and as the shown form of its character
one_shown : (name : List ℕ) (c : ℕ) → IsReference name c → c < 128 → ReadsAs name (encode_utf8 c)
one_shown name c n l = subst (λ text. ReadsAs name text) (sym (encode_ascii c l)) (one_reference name c n)

-- bytes that are not markup
plain_bytes : (bytes : List ℕ) → ((k : ℕ) → k < length bytes → is_plain (get_or bytes k 0) ≡ true) → ReadsAs bytes bytes
plain_bytes [] h = ends
plain_bytes (b ∷ bytes) h =
    let first : is_plain b ≡ true = grind (arith, common_steps, h 0) in
    let rest : (k : ℕ) → k < length bytes → is_plain (get_or bytes k 0) ≡ true = λ k l. grind (arith, common_steps, h (k + 1)) in
    itself b bytes bytes first (plain_bytes bytes rest)

-- a byte other than these five is plain
plain_if : (b : ℕ) → (b ≡ 38 → ⊥) → (b ≡ 60 → ⊥) → (b ≡ 62 → ⊥) → (b ≡ 34 → ⊥) → (b ≡ 39 → ⊥) → is_plain b ≡ true
plain_if b p q r s t = rw (ne_eqb b 38 p, ne_eqb b 60 q, ne_eqb b 62 r, ne_eqb b 34 s, ne_eqb b 39 t) refl

wide_plain : (b : ℕ) → 128 ≤ b → is_plain b ≡ true
wide_plain b l = plain_if b (λ e. omega (arith, e, l)) (λ e. omega (arith, e, l)) (λ e. omega (arith, e, l)) (λ e. omega (arith, e, l)) (λ e. omega (arith, e, l))

-- the bytes of a character that is plain
plain_encoded : (c : ℕ) → is_plain c ≡ true → ReadsAs (encode_utf8 c) (encode_utf8 c)
plain_encoded c p = plain_bytes (encode_utf8 c) (λ k l. go k l (cases_lt (get_or (encode_utf8 c) k 0) 128))
  where
    go : (k : ℕ) → k < length (encode_utf8 c) → (get_or (encode_utf8 c) k 0 < 128) ⊎ (128 ≤ get_or (encode_utf8 c) k 0) → is_plain (get_or (encode_utf8 c) k 0) ≡ true
    go k l (inl low) = subst (λ b. is_plain b ≡ true) (inside_one c [] (encode_utf8 c) k (sym (append-nil (encode_utf8 c))) l low) p
    go k l (inr high) = wide_plain (get_or (encode_utf8 c) k 0) high

-- the character that is shown for a plain one is plain
shown_plain : (c : ℕ) → is_plain c ≡ true → is_plain (occur_in c) ≡ true
shown_plain c p = go (nat_lt c 32) (c == 127) (is_unsafe c)
  where
    go : (x y z : Bool) → is_plain (cond x (0x2400 + c) (cond y 0x2421 (cond z 0xFFFD c))) ≡ true
    go true y z = wide_plain (0x2400 + c) (omega arith)
    go false true z = refl
    go false false true = refl
    go false false false = p

other_char : (c : ℕ) → is_plain c ≡ true → ReadsAs (shown_char c) (shown_char c)
other_char c p = go (c == 9)
  where
    go : (x : Bool) → ReadsAs (cond x (codes "    ") (encode_utf8 (occur_in c))) (cond x (codes "    ") (encode_utf8 (occur_in c)))
    go true = plain_bytes (codes "    ") (λ k l. grind (arith, common_steps))
    go false = plain_encoded (occur_in c) (shown_plain c p)

-- a character
char_reads : (c : ℕ) → ReadsAs (escaped_char c) (shown_char c)
char_reads c = amp (cases_eq c 38)
  where
    none : (c ≡ 38 → ⊥) → (c ≡ 60 → ⊥) → (c ≡ 62 → ⊥) → (c ≡ 34 → ⊥) → (c ≡ 39 → ⊥) → ReadsAs (escaped_char c) (shown_char c)
    none p q r s t = rw (ne_eqb c 38 p, ne_eqb c 60 q, ne_eqb c 62 r, ne_eqb c 34 s, ne_eqb c 39 t) (other_char c (plain_if c p q r s t))

    at : (n : ℕ) → ReadsAs (escaped_char n) (shown_char n) → c ≡ n → ReadsAs (escaped_char c) (shown_char c)
    at n r e = subst (λ x. ReadsAs (escaped_char x) (shown_char x)) (sym e) r

    apo : (c ≡ 38 → ⊥) → (c ≡ 60 → ⊥) → (c ≡ 62 → ⊥) → (c ≡ 34 → ⊥) → (c ≡ 39) ⊎ (c ≡ 39 → ⊥) → ReadsAs (escaped_char c) (shown_char c)
    apo p q r s (inl e) = at 39 (one_shown (codes "&#39;") 39 apostrophe (omega arith)) e
    apo p q r s (inr t) = none p q r s t

    quo : (c ≡ 38 → ⊥) → (c ≡ 60 → ⊥) → (c ≡ 62 → ⊥) → (c ≡ 34) ⊎ (c ≡ 34 → ⊥) → ReadsAs (escaped_char c) (shown_char c)
    quo p q r (inl e) = at 34 (one_shown (codes "&quot;") 34 quote (omega arith)) e
    quo p q r (inr s) = apo p q r s (cases_eq c 39)

    gre : (c ≡ 38 → ⊥) → (c ≡ 60 → ⊥) → (c ≡ 62) ⊎ (c ≡ 62 → ⊥) → ReadsAs (escaped_char c) (shown_char c)
    gre p q (inl e) = at 62 (one_shown (codes "&gt;") 62 greater (omega arith)) e
    gre p q (inr r) = quo p q r (cases_eq c 34)

    les : (c ≡ 38 → ⊥) → (c ≡ 60) ⊎ (c ≡ 60 → ⊥) → ReadsAs (escaped_char c) (shown_char c)
    les p (inl e) = at 60 (one_shown (codes "&lt;") 60 less (omega arith)) e
    les p (inr q) = gre p q (cases_eq c 62)

    amp : (c ≡ 38) ⊎ (c ≡ 38 → ⊥) → ReadsAs (escaped_char c) (shown_char c)
    amp (inl e) = at 38 (one_shown (codes "&amp;") 38 ampersand (omega arith)) e
    amp (inr p) = les p (cases_eq c 60)

-- a text, character by character
pub text_reads : (cs : List ℕ) → ReadsAs (flat_map escaped_char cs) (flat_map shown_char cs)
text_reads [] = ends
text_reads (c ∷ cs) = reads_both (char_reads c) (text_reads cs)

-- a character of lines
line_char_reads : (c : ℕ) → ReadsAs (escaped_line_char c) (shown_line_char c)
line_char_reads c = go (c == 10)
  where
    go : (x : Bool) → ReadsAs (cond x (codes "\n") (escaped_char c)) (cond x (codes "\n") (shown_char c))
    go true = itself 10 [] [] refl ends
    go false = char_reads c

-- lines, character by character
pub lines_read : (cs : List ℕ) → ReadsAs (flat_map escaped_line_char cs) (flat_map shown_line_char cs)
lines_read [] = ends
lines_read (c ∷ cs) = reads_both (line_char_reads c) (lines_read cs)
