-- The names of lifetimes: there is a `'` directly before each, and no literal opens where an
-- identifier is alone.
use Rattle.std.proofs.Common.{◌≡◌, ◌≢◌, ℕ, ◌+◌, ◌-◌, ◌<◌, ◌≤◌, ◌⊎◌, ◌==◌, ◌&&◌, nat_lt, nat_le, inl, inr, true, false, List, get_or, Option, Some, None, MatchOption, refl, sym, ◌∙◌, ap, subst, arith}
use Rattle.std.proofs.lemmas.Bool.{cases_Bool, and_parts, and_from, and_left, and_right, eqb-true, ne_eqb, lt-ltb, leb-true, false≢true, cond-false, cond-true, cond_both}
use Rattle.std.proofs.lemmas.Bool.Decides.{nat_tests}
use Rattle.std.specs.Char.{is_ascii_digit}
use Rattle.unicode_ident.proofs.IdentLemmas.{is_xid_start-ascii}
use Rattle.logos_lexeme.specs.LexemeCharacters.{character, past, is_start, is_continuing}
use Rattle.logos_lexeme.specs.LexemeRuns.{Steps, here, step, Run, Passes}
use Rattle.logos_lexeme.specs.LexemeOpenings.{hashes, raw_opening, string_opening, bytes_opening, literal_opening, follows_apostrophe, is_lifetime_name, literal_at, name_at}
use Rattle.logos_lexeme.specs.LexemeEnds.{IsName}
use Rattle.logos_lexeme.specs.declared.lexeme.openings.Content.{Content}
use Rattle.logos_lexeme.specs.declared.lexeme.openings.Content.TheVariants.{Text, Bytes, C}
use Rattle.logos_lexeme.specs.declared.lexeme.openings.Opening.{Opening}
use Rattle.logos_lexeme.proofs.CharacterLaws.{past-ascii, character-ascii}
use Rattle.logos_lexeme.proofs.OpeningLaws.{at_least, at_most}
use Rattle.logos_lexeme.proofs.again.PrintNames.{Names, raw, plain, nothing, names, raw_parts, start-34, start-35, start-39, continuing-34, continuing-35, continuing-39}

-- the character directly before an offset

pub follows-none : (bytes : List ℕ) → follows_apostrophe bytes 0 ≡ false
unfolding follows_apostrophe
follows-none bytes = refl

-- another byte
pub follows-other : (bytes : List ℕ) (at c : ℕ) → get_or bytes at 0 ≡ c → (c == 39) ≡ false → follows_apostrophe bytes (at + 1) ≡ false
unfolding follows_apostrophe
follows-other bytes at c e other =
    let one : at + 1 - 1 ≡ at = omega arith in
    and_right (nat_lt 0 (at + 1)) (get_or bytes (at + 1 - 1) 0 == 39) (ap (λ i. get_or bytes i 0 == 39) one ∙ ap (λ d. d == 39) e ∙ other)

-- the bytes are equal
pub follows-same : (a b : List ℕ) (x y : ℕ) → 0 < x → get_or b (y - 1) 0 ≡ get_or a (x - 1) 0 → follows_apostrophe b y ≡ true → follows_apostrophe a x ≡ true
unfolding follows_apostrophe
follows-same a b x y ahead same e =
    let parts = and_parts (nat_lt 0 y) (get_or b (y - 1) 0 == 39) e in
    and_from (nat_lt 0 x) (get_or a (x - 1) 0 == 39) (lt-ltb 0 x ahead) (ap (λ c. c == 39) (sym same) ∙ parts.1)

-- the literal that opens at an offset

pub no_lifetime : (bytes : List ℕ) (at : ℕ) → is_start (character bytes at) ≡ false → is_lifetime_name bytes at ≡ false
unfolding is_lifetime_name
no_lifetime bytes at e = and_right (follows_apostrophe bytes at) (is_start (character bytes at)) e

pub no_lifetime_apart : (bytes : List ℕ) (at : ℕ) → follows_apostrophe bytes at ≡ false → is_lifetime_name bytes at ≡ false
unfolding is_lifetime_name
no_lifetime_apart bytes at e = and_left (follows_apostrophe bytes at) (is_start (character bytes at)) e

pub lifetime_parts : (bytes : List ℕ) (at : ℕ) → is_lifetime_name bytes at ≡ true → (follows_apostrophe bytes at ≡ true) × (is_start (character bytes at) ≡ true)
unfolding is_lifetime_name
lifetime_parts bytes at e = and_parts (follows_apostrophe bytes at) (is_start (character bytes at)) e

pub lifetime_from : (bytes : List ℕ) (at : ℕ) → follows_apostrophe bytes at ≡ true → is_start (character bytes at) ≡ true → is_lifetime_name bytes at ≡ true
unfolding is_lifetime_name
lifetime_from bytes at e f = and_from (follows_apostrophe bytes at) (is_start (character bytes at)) e f

pub literal_at-none : (bytes : List ℕ) (at : ℕ) → literal_opening bytes at ≡ None → literal_at bytes at ≡ None
unfolding literal_at
literal_at-none bytes at e = cond_both (is_lifetime_name bytes at) _ _ (λ o. o ≡ None) (λ _. refl) (λ _. e)

pub literal_at-plain : (bytes : List ℕ) (at : ℕ) → is_lifetime_name bytes at ≡ false → literal_at bytes at ≡ literal_opening bytes at
unfolding literal_at
literal_at-plain bytes at e = cond-false (is_lifetime_name bytes at) None (literal_opening bytes at) e

pub literal_at-lifetime : (bytes : List ℕ) (at : ℕ) → is_lifetime_name bytes at ≡ true → literal_at bytes at ≡ None
unfolding literal_at
literal_at-lifetime bytes at e = cond-true (is_lifetime_name bytes at) None (literal_opening bytes at) e

pub literal_at-some : (bytes : List ℕ) (at : ℕ) (o : Opening) → literal_at bytes at ≡ Some o → (is_lifetime_name bytes at ≡ false) × (literal_opening bytes at ≡ Some o)
literal_at-some bytes at o e = elim (cases_Bool (is_lifetime_name bytes at)) [
  | inl f ↦ absurd (let g : None ≡ Some o = sym (literal_at-lifetime bytes at f) ∙ e in cc)
  | inr f ↦ (f, sym (literal_at-plain bytes at f) ∙ e)
]

-- a digit begins no identifier
digit_start : (bytes : List ℕ) (at : ℕ) → is_ascii_digit (get_or bytes at 0) ≡ true → is_start (character bytes at) ≡ false
unfolding is_start
digit_start bytes at e =
    let c = get_or bytes at 0 in
    let r = and_parts (nat_le 48 c) (nat_le c 57) e in
    let low : 48 ≤ c = leb-true 48 c r.0 in
    let high : c ≤ 57 = leb-true c 57 r.1 in
    rw (character-ascii bytes at (omega (arith, high)), is_xid_start-ascii c (omega (arith, high))) (grind (arith, nat_tests))

-- an identifier that a space, a line feed or nothing follows
module _ (bytes : List ℕ) (to : ℕ) (blank : (get_or bytes to 0 ≡ 32) ⊎ ((get_or bytes to 0 ≡ 10) ⊎ (get_or bytes to 0 ≡ 0))) where
  abbrev Letters : ℕ → Type 0
  Letters x = Steps (Passes is_continuing bytes) x to

  -- holds no byte that continues with no identifier
  no_byte : (x c : ℕ) → Letters x → c < 128 → 32 < c → is_continuing c ≡ false → get_or bytes x 0 ≢ c
  no_byte x c here low visible other e = elim blank [ inl f ↦ omega arith | inr r ↦ elim r [ inl f ↦ omega arith | inr f ↦ omega arith ] ]
  no_byte x c (step s r) low visible other e = false≢true (sym other ∙ ap is_continuing (sym (character-ascii bytes x (omega arith) ∙ e)) ∙ s.passes)

  -- and continues past a byte that is one of its letters
  onward : (x c : ℕ) → Letters x → c < 128 → 32 < c → get_or bytes x 0 ≡ c → Letters (x + 1)
  onward x c here low visible e = absurd (elim blank [ inl f ↦ omega arith | inr r ↦ elim r [ inl f ↦ omega arith | inr f ↦ omega arith ] ])
  onward x c (step s r) low visible e = subst (λ m. Letters m) (s.moves ∙ past-ascii bytes x (omega arith)) r

  raw_none : (content : Content) (x n : ℕ) → hashes bytes x ≡ n → get_or bytes (x + n) 0 ≢ 34 → raw_opening content bytes x ≡ None
  unfolding raw_opening
  raw_none content x n e other = cond-false (nat_le (hashes bytes x) 255 && (get_or bytes (x + hashes bytes x) 0 == 34)) (Some _) None
      (and_right (nat_le (hashes bytes x) 255) (get_or bytes (x + hashes bytes x) 0 == 34) (ne_eqb (get_or bytes (x + hashes bytes x) 0) 34 (λ f. other (ap (λ m. get_or bytes (x + m) 0) (sym e) ∙ f))))

  raw_letters : (content : Content) (x : ℕ) → Letters x → raw_opening content bytes x ≡ None
  raw_letters content x r =
      let z : x + 0 ≡ x = omega arith in
      let zero : hashes bytes x ≡ 0 = omega (arith, at_most bytes x 0 (λ e. no_byte x 35 r (omega arith) (omega arith) continuing-35 (ap (λ i. get_or bytes i 0) (sym z) ∙ e))) in
      raw_none content x 0 zero (λ e. no_byte x 34 r (omega arith) (omega arith) continuing-34 (ap (λ i. get_or bytes i 0) (sym z) ∙ e))

  string_letters : (content : Content) (x : ℕ) → Letters x → string_opening content bytes x ≡ None
  unfolding string_opening
  string_letters content x r =
      cond_both (get_or bytes x 0 == 34) _ _ (λ o. o ≡ None) (λ e. absurd (no_byte x 34 r (omega arith) (omega arith) continuing-34 (eqb-true (get_or bytes x 0) 34 e))) (λ _.
      cond_both (get_or bytes x 0 == 114) _ _ (λ o. o ≡ None) (λ e. raw_letters content (x + 1) (onward x 114 r (omega arith) (omega arith) (eqb-true (get_or bytes x 0) 114 e))) (λ _. refl))

  bytes_letters : (x : ℕ) → Letters x → bytes_opening bytes x ≡ None
  unfolding bytes_opening
  bytes_letters x r = cond_both (get_or bytes x 0 == 39) _ _ (λ o. o ≡ None) (λ e. absurd (no_byte x 39 r (omega arith) (omega arith) continuing-39 (eqb-true (get_or bytes x 0) 39 e))) (λ _. string_letters Bytes x r)

  -- a byte that begins it
  starts : (at c : ℕ) → is_start (character bytes at) ≡ true → get_or bytes at 0 ≡ c → c < 128 → is_start c ≡ true
  starts at c start e low = ap is_start (sym (character-ascii bytes at (omega arith) ∙ e)) ∙ start

  begun : (at c : ℕ) → Letters (past bytes at) → get_or bytes at 0 ≡ c → c < 128 → Letters (at + 1)
  begun at c r e low = subst (λ m. Letters m) (past-ascii bytes at (omega arith)) r

  plain_none : (at : ℕ) → is_start (character bytes at) ≡ true → Letters (past bytes at) → literal_opening bytes at ≡ None
  unfolding literal_opening string_opening
  plain_none at start r =
      let c = get_or bytes at 0 in
      cond_both (is_ascii_digit c) _ _ (λ o. o ≡ None) (λ e. absurd (false≢true (sym (digit_start bytes at e) ∙ start))) (λ _.
      cond_both (c == 39) _ _ (λ o. o ≡ None) (λ e. absurd (false≢true (sym start-39 ∙ starts at 39 start (eqb-true c 39 e) (omega arith)))) (λ _.
      cond_both (c == 98) _ _ (λ o. o ≡ None) (λ e. bytes_letters (at + 1) (begun at 98 r (eqb-true c 98 e) (omega arith))) (λ _.
      cond_both (c == 99) _ _ (λ o. o ≡ None) (λ e. string_letters C (at + 1) (begun at 99 r (eqb-true c 99 e) (omega arith))) (λ _.
      cond_both (c == 34) _ _ (λ o. o ≡ None) (λ e. absurd (false≢true (sym start-34 ∙ starts at 34 start (eqb-true c 34 e) (omega arith)))) (λ _.
      cond_both (c == 114) _ _ (λ o. o ≡ None) (λ e. raw_letters Text (at + 1) (begun at 114 r (eqb-true c 114 e) (omega arith))) (λ _. refl))))))

  raw_name_none : (at : ℕ) → get_or bytes at 0 ≡ 114 → get_or bytes (at + 1) 0 ≡ 35 → is_start (character bytes (at + 2)) ≡ true → literal_opening bytes at ≡ None
  unfolding literal_opening string_opening
  raw_name_none at e f start =
      let two : at + 1 + 1 ≡ at + 2 = omega arith in
      let many : 1 ≤ hashes bytes (at + 1) = at_least bytes (at + 1) 1 (λ k l. let z : at + 1 + k ≡ at + 1 = omega arith in ap (λ i. get_or bytes i 0) z ∙ f) in
      let few : hashes bytes (at + 1) ≤ 1 = at_most bytes (at + 1) 1 (λ g. false≢true (sym start-35 ∙ starts (at + 2) 35 start (ap (λ i. get_or bytes i 0) (sym two) ∙ g) (omega arith))) in
      let other : get_or bytes (at + 1 + 1) 0 ≢ 34 = λ g. false≢true (sym start-34 ∙ starts (at + 2) 34 start (ap (λ i. get_or bytes i 0) (sym two) ∙ g) (omega arith)) in
      rw e (raw_none Text (at + 1) 1 (omega arith) other)

  name_none : (at : ℕ) (o : Option ℕ) → Names bytes at o → MatchOption o ⊥ (λ name. Run (Passes is_continuing bytes) (past bytes name) to) → literal_opening bytes at ≡ None
  name_none at o (raw t) r = let parts = raw_parts bytes at t in raw_name_none at parts.0 parts.1 parts.2
  name_none at o (plain t) r = plain_none at t r.steps
  name_none at o (nothing t) r = absurd r

  pub name_no_literal : (at : ℕ) → IsName bytes at to → literal_opening bytes at ≡ None
  name_no_literal at r = name_none at (name_at bytes at) (names bytes at) r
