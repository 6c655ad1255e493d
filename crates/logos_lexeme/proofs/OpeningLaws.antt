-- The lexemes and gaps that open at an offset, by cases.
use Rattle.std.proofs.Common.{◌≡◌, ◌≢◌, ℕ, ◌+◌, ◌<◌, ◌≤◌, ◌==◌, ◌&&◌, nat_le, not, min, inl, inr, Option, Some, None, unwrap_or, option_map, is_some, MatchOption, List, length, get_or, drop, get_or-drop, length-drop, sym, ◌∙◌, ap, arith, add-zero}
use Rattle.std.specs.List.{prefix_len}
use Rattle.std.proofs.lemmas.Bool.{cases_lt, eqb-true, eq-eqb, false≢true, cond_both, and_parts}
use Rattle.std.proofs.lemmas.List.Sums.{prefix_len_passes, prefix_len_stops}
use Rattle.std.specs.Char.{is_ascii_digit}
use Rattle.logos_lexeme.specs.LexemeCharacters.{character, past, is_space}
use Rattle.logos_lexeme.specs.LexemeOpenings.{hashes, raw_opening, string_opening, character_opening, bytes_opening, literal_opening, line_kind, block_kind, comment_opening, name_at, single_kind, other_opening, is_lifetime_name, literal_at, opening_at, prefix_of}
use Rattle.logos_lexeme.specs.declared.lexeme.LexemeKind.{LexemeKind}
use Rattle.logos_lexeme.specs.declared.lexeme.openings.Content.{Content}
use Rattle.logos_lexeme.specs.declared.lexeme.openings.Content.TheVariants.{Text, Bytes, C}
use Rattle.logos_lexeme.specs.declared.lexeme.openings.Opening.{Opening}
use Rattle.logos_lexeme.specs.declared.lexeme.openings.Opening.TheVariants.{Space, Line, Block, Word, Number, Quotes, Raw, Apostrophes, Character, Single, Nothing}
use Rattle.logos_lexeme.proofs.CharacterLaws.{inside_from_byte}

module _ (bytes : List ℕ) (from : ℕ) where
  -- offsets that hold `#` are counted
  pub at_least : (n : ℕ) → ((k : ℕ) → k < n → get_or bytes (from + k) 0 ≡ 35) → n ≤ hashes bytes from
  unfolding hashes
  at_least n all =
      let m = prefix_len (λ c. c == 35) (drop from bytes) in
      elim (cases_lt m n) [
        | inr l ↦ l
        | inl l ↦
            let here = all m l in
            let inside = inside_from_byte bytes (from + m) (omega arith) in
            let stops = prefix_len_stops (λ c. c == 35) (drop from bytes) 0 (omega (arith, length-drop from bytes)) in
            let goes = eq-eqb (get_or bytes (from + m) 0) 35 here in
            absurd (false≢true (sym stops ∙ ap (λ c. c == 35) (get_or-drop from bytes m 0) ∙ goes))
      ]

  -- and no further one, where another byte is
  pub at_most : (n : ℕ) → get_or bytes (from + n) 0 ≢ 35 → hashes bytes from ≤ n
  unfolding hashes
  at_most n other = elim (cases_lt n (prefix_len (λ c. c == 35) (drop from bytes))) [
    | inr l ↦ l
    | inl l ↦ absurd (other (eqb-true (get_or bytes (from + n) 0) 35 (ap (λ c. c == 35) (sym (get_or-drop from bytes n 0)) ∙ prefix_len_passes (λ c. c == 35) (drop from bytes) n 0 l)))
  ]

  pub hashes_counted : (n : ℕ) → n ≤ 256 → ((k : ℕ) → k < n → get_or bytes (from + k) 0 ≡ 35) → get_or bytes (from + n) 0 ≢ 35 → n ≡ min 256 (hashes bytes from)
  hashes_counted n few all other = omega (arith, at_least n all, at_most n other)

  pub hashes_full : (n : ℕ) → 256 ≤ n → n ≤ 256 → ((k : ℕ) → k < n → get_or bytes (from + k) 0 ≡ 35) → n ≡ min 256 (hashes bytes from)
  hashes_full n many few all = omega (arith, at_least n all)

-- a property of an opening, if there is one
abbrev Yields : (Opening → Type 0) → Option Opening → Type 0
Yields P o = MatchOption o (Unit {0}) P

yields-or : (P : Opening → Type 0) (o : Option Opening) (other : Opening) → Yields P o → P other → P (unwrap_or o other)
yields-or P None other g p = p
yields-or P (Some x) other g p = g

single-or : (P : Opening → Type 0) → ((kind : LexemeKind) → P (Single kind)) → P Nothing → (o : Option LexemeKind) → P (unwrap_or (option_map Single o) Nothing)
single-or P single nothing None = nothing
single-or P single nothing (Some kind) = single kind

-- a property that each opening has at its offset holds for the opening at an offset
module _ (P : Opening → Type 0) (bytes : List ℕ) where
  raw-yields : (content : Content) (at : ℕ) → ((count : ℕ) → get_or bytes (at + count) 0 ≡ 34 → P (Raw content count)) → Yields P (raw_opening content bytes at)
  unfolding raw_opening
  raw-yields content at raw = cond_both (nat_le (hashes bytes at) 255 && (get_or bytes (at + hashes bytes at) 0 == 34)) (Some (Raw content (hashes bytes at))) None (Yields P)
      (λ e. raw (hashes bytes at) (eqb-true (get_or bytes (at + hashes bytes at) 0) 34 (and_parts (nat_le (hashes bytes at) 255) (get_or bytes (at + hashes bytes at) 0 == 34) e).1)) (λ _. tt)

  string-yields : (content : Content) (at : ℕ) → (get_or bytes at 0 ≡ 34 → P (Quotes content)) → ((count : ℕ) → get_or bytes (at + 1 + count) 0 ≡ 34 → P (Raw content count)) → Yields P (string_opening content bytes at)
  unfolding string_opening
  string-yields content at quotes raw = cond_both (get_or bytes at 0 == 34) _ _ (Yields P) (λ e. quotes (eqb-true (get_or bytes at 0) 34 e)) (λ _. cond_both (get_or bytes at 0 == 114) _ _ (Yields P) (λ _. raw-yields content (at + 1) raw) (λ _. tt))

  character-yields : P (Apostrophes Text) → (at : ℕ) → (get_or bytes (past bytes at) 0 ≡ 39 → P Character) → Yields P (character_opening bytes at)
  unfolding character_opening
  character-yields escaped at character = cond_both (get_or bytes at 0 == 92) _ _ (Yields P) (λ _. escaped) (λ _. cond_both (get_or bytes (past bytes at) 0 == 39) _ _ (Yields P) (λ e. character (eqb-true (get_or bytes (past bytes at) 0) 39 e)) (λ _. tt))

  bytes-yields : (at : ℕ) → (get_or bytes at 0 ≡ 34 → P (Quotes Bytes)) → ((count : ℕ) → get_or bytes (at + 1 + count) 0 ≡ 34 → P (Raw Bytes count)) → P (Apostrophes Bytes) → Yields P (bytes_opening bytes at)
  unfolding bytes_opening
  bytes-yields at quotes raw escaped = cond_both (get_or bytes at 0 == 39) _ _ (Yields P) (λ _. escaped) (λ _. string-yields Bytes at quotes raw)

  literal-yields : (at : ℕ) → P Number → ((content : Content) → get_or bytes (at + prefix_of content) 0 ≡ 34 → P (Quotes content)) → ((content : Content) (count : ℕ) → get_or bytes (at + prefix_of content + 1 + count) 0 ≡ 34 → P (Raw content count)) → ((content : Content) → P (Apostrophes content)) →
      (get_or bytes at 0 ≡ 39 → get_or bytes (past bytes (at + 1)) 0 ≡ 39 → P Character) → Yields P (literal_opening bytes at)
  unfolding literal_opening
  literal-yields at number quotes raw escaped character =
      cond_both (is_ascii_digit (get_or bytes at 0)) _ _ (Yields P) (λ _. number) (λ _.
      cond_both (get_or bytes at 0 == 39) _ _ (Yields P) (λ e. character-yields (escaped Text) (at + 1) (character (eqb-true (get_or bytes at 0) 39 e))) (λ _.
      cond_both (get_or bytes at 0 == 98) _ _ (Yields P) (λ _. bytes-yields (at + 1) (quotes Bytes) (raw Bytes) (escaped Bytes)) (λ _.
      cond_both (get_or bytes at 0 == 99) _ _ (Yields P) (λ _. string-yields C (at + 1) (quotes C) (raw C)) (λ _.
      string-yields Text at (λ e. quotes Text (rw add-zero e)) (λ count e. raw Text count (rw add-zero e))))))

  literal_at-yields : (at : ℕ) → Yields P (literal_opening bytes at) → Yields P (literal_at bytes at)
  unfolding literal_at
  literal_at-yields at yields = cond_both (is_lifetime_name bytes at) _ _ (Yields P) (λ _. tt) (λ _. yields)

  comment-yields : (at : ℕ) → ((kind : LexemeKind) → get_or bytes (at + 1) 0 ≡ 47 → P (Line kind)) → ((kind : LexemeKind) → P (Block kind)) → Yields P (comment_opening bytes at)
  unfolding comment_opening
  comment-yields at line block =
      cond_both (not (get_or bytes at 0 == 47)) _ _ (Yields P) (λ _. tt) (λ _.
      cond_both (get_or bytes (at + 1) 0 == 47) _ _ (Yields P) (λ e. line (line_kind bytes (at + 2)) (eqb-true (get_or bytes (at + 1) 0) 47 e)) (λ _.
      cond_both (get_or bytes (at + 1) 0 == 42) _ _ (Yields P) (λ _. block (block_kind bytes (at + 2))) (λ _. tt)))

  other-yields : (at : ℕ) → P Space → P Word → ((kind : LexemeKind) → P (Single kind)) → P Nothing → P (other_opening bytes at)
  unfolding other_opening
  other-yields at space word single nothing =
      cond_both (is_space (character bytes at)) _ _ P (λ _. space) (λ _.
      cond_both (is_some (name_at bytes at)) _ _ P (λ _. word) (λ _.
      single-or P single nothing (single_kind bytes at)))

  opening-yields : (at : ℕ) → P Number → ((content : Content) → get_or bytes (at + prefix_of content) 0 ≡ 34 → P (Quotes content)) → ((content : Content) (count : ℕ) → get_or bytes (at + prefix_of content + 1 + count) 0 ≡ 34 → P (Raw content count)) → ((content : Content) → P (Apostrophes content)) →
      (get_or bytes at 0 ≡ 39 → get_or bytes (past bytes (at + 1)) 0 ≡ 39 → P Character) →
      ((kind : LexemeKind) → get_or bytes (at + 1) 0 ≡ 47 → P (Line kind)) → ((kind : LexemeKind) → P (Block kind)) →
      P Space → P Word → ((kind : LexemeKind) → P (Single kind)) → P Nothing → P (opening_at bytes at)
  unfolding opening_at
  opening-yields at number quotes raw escaped character line block space word single nothing =
      yields-or P (literal_at bytes at) _ (literal_at-yields at (literal-yields at number quotes raw escaped character))
      (yields-or P (comment_opening bytes at) _ (comment-yields at line block)
      (other-yields at space word single nothing))

module _ (bytes : List ℕ) (at : ℕ) where
  -- the two slashes of a line comment are inside
  abbrev LineFits : Opening → Type 0
  LineFits o = (kind : LexemeKind) → o ≡ Line kind → at + 2 ≤ length bytes

  pub line_fits : (kind : LexemeKind) → opening_at bytes at ≡ Line kind → at + 2 ≤ length bytes
  line_fits = opening-yields LineFits bytes at (λ k e. absurd (cc)) (λ c p k e. absurd (cc)) (λ c n p k e. absurd (cc)) (λ c k e. absurd (cc))
      (λ p q k e. absurd (cc)) (λ kind p k e. omega (arith, inside_from_byte bytes (at + 1) (omega arith))) (λ kind k e. absurd (cc))
      (λ k e. absurd (cc)) (λ k e. absurd (cc)) (λ kind k e. absurd (cc)) (λ k e. absurd (cc))

  -- the apostrophes around a character
  abbrev IsBetween : Opening → Type 0
  IsBetween o = o ≡ Character → (get_or bytes at 0 ≡ 39) × (get_or bytes (past bytes (at + 1)) 0 ≡ 39)

  pub is_between : opening_at bytes at ≡ Character → (get_or bytes at 0 ≡ 39) × (get_or bytes (past bytes (at + 1)) 0 ≡ 39)
  is_between = opening-yields IsBetween bytes at (λ e. absurd (cc)) (λ c p e. absurd (cc)) (λ c n p e. absurd (cc)) (λ c e. absurd (cc))
      (λ p q e. (p, q)) (λ kind p e. absurd (cc)) (λ kind e. absurd (cc))
      (λ e. absurd (cc)) (λ e. absurd (cc)) (λ kind e. absurd (cc)) (λ e. absurd (cc))

  -- the quote of a string
  abbrev QuoteFits : Opening → Type 0
  QuoteFits o = (content : Content) → o ≡ Quotes content → get_or bytes (at + prefix_of content) 0 ≡ 34

  pub quote_fits : (content : Content) → opening_at bytes at ≡ Quotes content → get_or bytes (at + prefix_of content) 0 ≡ 34
  quote_fits = opening-yields QuoteFits bytes at (λ k e. absurd (cc)) (λ content p k e. let same : content ≡ k = cc in rw (← same) p) (λ c n p k e. absurd (cc)) (λ c k e. absurd (cc))
      (λ p q k e. absurd (cc)) (λ kind p k e. absurd (cc)) (λ kind k e. absurd (cc))
      (λ k e. absurd (cc)) (λ k e. absurd (cc)) (λ kind k e. absurd (cc)) (λ k e. absurd (cc))

  -- the quote of a raw string
  abbrev RawFits : Opening → Type 0
  RawFits o = (content : Content) (count : ℕ) → o ≡ Raw content count → get_or bytes (at + prefix_of content + 1 + count) 0 ≡ 34

  pub raw_fits : (content : Content) (count : ℕ) → opening_at bytes at ≡ Raw content count → get_or bytes (at + prefix_of content + 1 + count) 0 ≡ 34
  raw_fits = opening-yields RawFits bytes at (λ k n e. absurd (cc)) (λ c p k n e. absurd (cc))
      (λ content count p k n e. let same : content ≡ k = cc in let as_many : count ≡ n = cc in rw (← same, ← as_many) p) (λ c k n e. absurd (cc))
      (λ p q k n e. absurd (cc)) (λ kind p k n e. absurd (cc)) (λ kind k n e. absurd (cc))
      (λ k n e. absurd (cc)) (λ k n e. absurd (cc)) (λ kind k n e. absurd (cc)) (λ k n e. absurd (cc))
