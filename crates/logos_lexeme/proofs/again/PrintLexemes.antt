-- A lexeme in a window is one in the second text too.
use Rattle.std.proofs.Common.{◌≡◌, ◌≢◌, ℕ, ◌+◌, ◌-◌, ◌<◌, ◌≤◌, ◌⊎◌, ◌==◌, ◌&&◌, ◌||◌, nat_le, not, inl, inr, Bool, true, false, cond, unwrap_or, option_map, List, length, get_or, Option, Some, None, is_some, MatchOption, refl, sym, ◌∙◌, ap, subst, arith}
use Rattle.std.proofs.lemmas.Bool.{cases_lt, cases_Bool, and_parts, and_from, and_left, or_cases, eqb-true, false≢true, cond-true, cond-false, cond_both}
use Rattle.std.proofs.lemmas.List.{get_or_past}
use Rattle.std.proofs.lemmas.Str.{IsCharBoundary-after_ascii}
use Rattle.std.specs.Char.{is_ascii_digit}
use Rattle.std.specs.Str.{IsCharBoundary}
use Rattle.logos_lexeme.specs.LexemeCharacters.{character, past, is_space, is_start, is_continuing, is_mark}
use Rattle.logos_lexeme.specs.LexemeRuns.{IsFirst, Run, Passes}
use Rattle.logos_lexeme.specs.LexemeOpenings.{hashes, raw_opening, string_opening, character_opening, bytes_opening, literal_opening, line_kind, block_kind, comment_opening, name_at, spacing, delimiter_kind, single_kind, other_opening, follows_apostrophe, is_lifetime_name, literal_at, opening_at, kind_of, prefix_of}
use Rattle.logos_lexeme.specs.LexemeEnds.{Ends, IsLineEnd, IsSuffix, IsName, Continues, has_base}
use Rattle.logos_lexeme.specs.LiteralBodies.{IsSound}
use Rattle.logos_lexeme.specs.Lexemes.{IsNext, IsSuffixed}
use Rattle.logos_lexeme.specs.declared.lexeme.Spacing.{Spacing}
use Rattle.logos_lexeme.specs.declared.lexeme.Spacing.TheVariants.{Alone, Joint}
use Rattle.logos_lexeme.specs.declared.lexeme.LexemeKind.{LexemeKind}
use Rattle.logos_lexeme.specs.declared.lexeme.LexemeKind.TheVariants.{Gap, Identifier, Literal, Doc, Punctuation, Opening as OpeningKind, Closing}
use Rattle.logos_lexeme.specs.declared.lexeme.openings.Content.{Content}
use Rattle.logos_lexeme.specs.declared.lexeme.openings.Content.TheVariants.{Text, Bytes, C}
use Rattle.logos_lexeme.specs.declared.lexeme.openings.Opening.{Opening}
use Rattle.logos_lexeme.specs.declared.lexeme.openings.Opening.TheVariants.{Space, Line, Block, Word, Number, Quotes, Raw, Apostrophes, Character, Single, Nothing}
use Rattle.logos_lexeme.proofs.CharacterLaws.{past-boundary, past-ascii, past-moves, character-ascii}
use Rattle.logos_lexeme.proofs.EndLaws.{Ends-after, Ends-boundary, IsQuoted-after, IsSuffix-le}
use Rattle.logos_lexeme.proofs.LexemeLaws.{no_suffix}
use Rattle.logos_lexeme.proofs.again.PrintWindows.{Window, blank_byte, same_character, same_past, past_within}
use Rattle.logos_lexeme.proofs.again.PrintOpenings.{head_end, literal_same}
use Rattle.logos_lexeme.proofs.again.PrintEnds.{quoted_same, raw_same, closes_long, closes_same, line_same}
use Rattle.logos_lexeme.proofs.again.PrintNames.{Names, raw, plain, nothing, names, start-47, mark-39, name_same, suffix_same, no_name, no_comment, line_doc, block_doc, joint_same, alone_blank}
use Rattle.logos_lexeme.proofs.again.PrintLifetimes.{no_lifetime, lifetime_parts, lifetime_from, literal_at-none, literal_at-plain, literal_at-some, name_no_literal}
use Rattle.logos_lexeme.proofs.again.PrintBodies.{character_piece, raw_pieces, string_pieces, number_no_suffix, number_same, based_same}

-- the characters with which a literal opens
pub data IsLiteral (bytes : List ℕ) (at : ℕ) : Opening → Type 0 where
  number : is_ascii_digit (get_or bytes at 0) ≡ true → IsLiteral bytes at Number
  quotes : (content : Content) → IsLiteral bytes at (Quotes content)
  raw_quotes : (content : Content) (count : ℕ) → IsLiteral bytes at (Raw content count)
  apostrophes : (content : Content) → IsLiteral bytes at (Apostrophes content)
  character_between : get_or bytes at 0 ≡ 39 → IsLiteral bytes at Character

abbrev Yields : List ℕ → ℕ → Option Opening → Type 0
Yields bytes at o = MatchOption o (Unit {0}) (IsLiteral bytes at)

module _ (bytes : List ℕ) (at : ℕ) where
  raw-yields : (content : Content) (i : ℕ) → Yields bytes at (raw_opening content bytes i)
  unfolding raw_opening
  raw-yields content i = cond_both (nat_le (hashes bytes i) 255 && (get_or bytes (i + hashes bytes i) 0 == 34)) (Some (Raw content (hashes bytes i))) None (Yields bytes at) (λ _. raw_quotes content (hashes bytes i)) (λ _. tt)

  string-yields : (content : Content) (i : ℕ) → Yields bytes at (string_opening content bytes i)
  unfolding string_opening
  string-yields content i = cond_both (get_or bytes i 0 == 34) _ _ (Yields bytes at) (λ _. quotes content) (λ _. cond_both (get_or bytes i 0 == 114) _ _ (Yields bytes at) (λ _. raw-yields content (i + 1)) (λ _. tt))

  character-yields : get_or bytes at 0 ≡ 39 → (i : ℕ) → Yields bytes at (character_opening bytes i)
  unfolding character_opening
  character-yields e i = cond_both (get_or bytes i 0 == 92) _ _ (Yields bytes at) (λ _. apostrophes Text) (λ _. cond_both (get_or bytes (past bytes i) 0 == 39) _ _ (Yields bytes at) (λ _. character_between e) (λ _. tt))

  bytes-yields : (i : ℕ) → Yields bytes at (bytes_opening bytes i)
  unfolding bytes_opening
  bytes-yields i = cond_both (get_or bytes i 0 == 39) _ _ (Yields bytes at) (λ _. apostrophes Bytes) (λ _. string-yields Bytes i)

  literal-yields : Yields bytes at (literal_opening bytes at)
  unfolding literal_opening
  literal-yields =
      cond_both (is_ascii_digit (get_or bytes at 0)) _ _ (Yields bytes at) (λ e. number e) (λ _.
      cond_both (get_or bytes at 0 == 39) _ _ (Yields bytes at) (λ e. character-yields (eqb-true (get_or bytes at 0) 39 e) (at + 1)) (λ _.
      cond_both (get_or bytes at 0 == 98) _ _ (Yields bytes at) (λ _. bytes-yields (at + 1)) (λ _.
      cond_both (get_or bytes at 0 == 99) _ _ (Yields bytes at) (λ _. string-yields C (at + 1)) (λ _.
      string-yields Text at))))

  pub is_literal : (o : Opening) → literal_at bytes at ≡ Some o → IsLiteral bytes at o
  is_literal o e = subst (Yields bytes at) (literal_at-some bytes at o e).1 literal-yields

  -- where one ends

  head-le : (o : Opening) (end : ℕ) → IsLiteral bytes at o → Ends bytes at o end → head_end bytes at o ≤ end
  head-le o end (number e) r = omega (arith, Ends-after bytes at Number end r)
  head-le o end (quotes content) r = omega (arith, IsQuoted-after 34 bytes (at + prefix_of content + 1) end r)
  head-le o end (raw_quotes content count) r = let f = r.first.begun in let g = r.after in omega arith
  head-le o end (apostrophes content) r = omega (arith, IsQuoted-after 39 bytes (at + prefix_of content + 1) end r)
  head-le o end (character_between e) r = let g = r.after in omega arith

  long : (o : Opening) (end : ℕ) → IsLiteral bytes at o → Ends bytes at o end → get_or bytes at 0 ≡ 39 → at + 2 ≤ end
  long o end (number e) r f = absurd (false≢true (ap is_ascii_digit (sym f) ∙ e))
  long o end (quotes content) r f = omega (arith, IsQuoted-after 34 bytes (at + prefix_of content + 1) end r)
  long o end (raw_quotes content count) r f = let h = r.first.begun in let g = r.after in omega arith
  long o end (apostrophes content) r f = omega (arith, IsQuoted-after 39 bytes (at + prefix_of content + 1) end r)
  long o end (character_between e) r f = let g = r.after in let m = past-moves bytes (at + 1) in omega arith

-- the opening of the lexeme or gap at an offset
pub data Opens (bytes : List ℕ) (at : ℕ) : Opening → Type 0 where
  by_literal : (o : Opening) → literal_at bytes at ≡ Some o → Opens bytes at o
  by_comment : (o : Opening) → literal_at bytes at ≡ None → comment_opening bytes at ≡ Some o → Opens bytes at o
  by_other : literal_at bytes at ≡ None → comment_opening bytes at ≡ None → Opens bytes at (other_opening bytes at)

opens_by : (bytes : List ℕ) (at : ℕ) (l c : Option Opening) → literal_at bytes at ≡ l → comment_opening bytes at ≡ c → Opens bytes at (unwrap_or l (unwrap_or c (other_opening bytes at)))
opens_by bytes at (Some o) c e f = by_literal o e
opens_by bytes at None (Some o) e f = by_comment o e f
opens_by bytes at None None e f = by_other e f

pub opens_at : (bytes : List ℕ) (at : ℕ) → Opens bytes at (opening_at bytes at)
unfolding opening_at
opens_at bytes at = opens_by bytes at (literal_at bytes at) (comment_opening bytes at) refl refl

opens_literal : (bytes : List ℕ) (at : ℕ) (o : Opening) → literal_at bytes at ≡ Some o → opening_at bytes at ≡ o
unfolding opening_at
opens_literal bytes at o e = rw e refl

opens_comment : (bytes : List ℕ) (at : ℕ) (o : Opening) → literal_at bytes at ≡ None → comment_opening bytes at ≡ Some o → opening_at bytes at ≡ o
unfolding opening_at
opens_comment bytes at o e f = rw (e, f) refl

opens_other : (bytes : List ℕ) (at : ℕ) (o : Opening) → literal_at bytes at ≡ None → comment_opening bytes at ≡ None → other_opening bytes at ≡ o → opening_at bytes at ≡ o
unfolding opening_at
opens_other bytes at o e f g = rw (e, f) g

-- a lexeme from its opening
made : (bytes : List ℕ) (at : ℕ) (kind : LexemeKind) (o : Opening) (end to : ℕ) → opening_at bytes at ≡ o → Ends bytes at o end → IsSound bytes at o end → kind ≡ kind_of o → IsSuffixed bytes kind end to → to ≤ length bytes → IsNext bytes at kind to
made bytes at kind o end to e ends sound is suffixed within = record {
  end = end;
  ends = subst (λ x. Ends bytes at x end) (sym e) ends;
  sound = subst (λ x. IsSound bytes at x end) (sym e) sound;
  is_kind = is ∙ ap kind_of (sym e);
  suffixed = suffixed;
  within = within;
}

module _ (a b : List ℕ) (p q k : ℕ) (w : Window a b p q k) (bound : IsCharBoundary a p) where
  inside_a : p < length a
  inside_a = let f = w.fits in let g = w.filled in omega arith

  ascii_next : get_or a p 0 ≡ 39 → IsCharBoundary a (p + 1)
  ascii_next e = IsCharBoundary-after_ascii a p w.utf8 inside_a (omega arith)

  no_literal : is_start (character a p) ≡ false → (get_or a p 0 ≡ 39 → p + 1 < p + k) → literal_at a p ≡ None → literal_at b q ≡ None
  no_literal start quote none =
      let e : literal_opening a p ≡ None = sym (literal_at-plain a p (no_lifetime a p start)) ∙ none in
      literal_at-none b q (literal_same a b p q k w (λ f. (ascii_next f, quote f)) (λ o f. absurd (let g = sym e ∙ f in cc)) ∙ e)

  slash_start : get_or a p 0 ≡ 47 → is_start (character a p) ≡ false
  slash_start e = ap is_start (character-ascii a p (omega arith) ∙ e) ∙ start-47

  -- there is no `'` directly before the window, or there is one in the first text too
  abbrev Before : Type 0
  Before = follows_apostrophe b q ≡ true → follows_apostrophe a p ≡ true

  same_lifetime : Before → is_lifetime_name a p ≡ false → is_lifetime_name b q ≡ false
  same_lifetime before none = elim (cases_Bool (is_lifetime_name b q)) [
    | inr e ↦ e
    | inl e ↦
        let parts = lifetime_parts b q e in
        let start : is_start (character a p) ≡ true = ap is_start (sym (same_character a b p q k w p q (omega arith) (omega arith) (omega (arith, w.filled)) bound)) ∙ parts.1 in
        absurd (false≢true (sym none ∙ lifetime_from a p (before parts.0) start))
  ]

  literal_there : Before → (o : Opening) (end : ℕ) → literal_at a p ≡ Some o → Ends a p o end → end ≤ p + k → literal_at b q ≡ Some o
  literal_there before o end some ends le =
      let is = is_literal a p o some in
      let parts = literal_at-some a p o some in
      let e = parts.1 in
      literal_at-plain b q (same_lifetime before parts.0) ∙
      literal_same a b p q k w (λ f. (ascii_next f, let g = long a p o end is ends f in omega arith))
      (λ o' f. let g : Some o ≡ Some o' = sym e ∙ f in let h : o ≡ o' = cc in let i = head-le a p o end is ends in subst (λ x. head_end a p x ≤ p + k) h (omega (arith, i))) ∙ e

  -- literals
  literal_next : Before → (o : Opening) (end : ℕ) → IsLiteral a p o → literal_at a p ≡ Some o → Ends a p o end → IsSound a p o end → IsSuffix a end (p + k) → IsNext b q Literal (q + k)
  literal_next before o end (number d) e ends sound suffix =
      let le = IsSuffix-le a end (p + k) suffix in
      let is : p + k ≡ end = number_no_suffix (has_base a p) a end (p + k) ends.stop suffix in
      let ends' : Run (Continues (has_base a p) a) (past a p) (p + k) = subst (λ m. Run (Continues (has_base a p) a) (past a p) m) (sym is) ends in
      let suffix' : IsSuffix a (p + k) (p + k) = subst (λ m. IsSuffix a m (p + k)) (sym is) suffix in
      let moves = past-moves a p in
      let f = same_past a b p q k w p q (omega arith) (omega arith) (omega (arith, w.filled)) bound in
      let run = number_same a b p q k w (has_base a p) (past a p) (past b q) (f, omega arith) moves (past-boundary a p w.utf8 bound inside_a) ends' in
      let based = based_same a b p q k w ends'.stop in
      made b q Literal Number (q + k) (q + k) (opens_literal b q Number (literal_there before Number end e ends le)) (subst (λ t. Run (Continues t b) (past b q) (q + k)) (sym based) run) tt refl
      (suffix_same a b p q k w (p + k) (q + k) (omega arith) (omega arith) w.ends suffix') w.holds
  literal_next before o end (quotes content) e ends sound suffix =
      let le = IsSuffix-le a end (p + k) suffix in
      let after = IsQuoted-after 34 a (p + prefix_of content + 1) end ends in
      let n = end + q - p in
      made b q Literal (Quotes content) n (q + k) (opens_literal b q (Quotes content) (literal_there before (Quotes content) end e ends le))
      (quoted_same a b p q k w 34 (p + prefix_of content + 1) (q + prefix_of content + 1) end n (omega arith, omega arith) (omega arith, omega arith) le ends)
      (string_pieces a b p q k w content (p + prefix_of content + 1) (q + prefix_of content + 1) (end - 1) (n - 1) (omega arith, omega arith) (omega arith, omega arith) (omega arith) sound)
      refl (suffix_same a b p q k w end n (omega arith) (omega arith) (Ends-boundary a w.utf8 p inside_a bound (Quotes content) end ends) suffix) w.holds
  literal_next before o end (raw_quotes content count) e ends sound suffix =
      let le = IsSuffix-le a end (p + k) suffix in
      let after = ends.first.begun in
      let close = ends.after in
      let n = end + q - p in
      made b q Literal (Raw content count) n (q + k) (opens_literal b q (Raw content count) (literal_there before (Raw content count) end e ends le))
      (raw_same a b p q k w count (p + prefix_of content + 1 + count + 1) (q + prefix_of content + 1 + count + 1) end n (omega arith, omega arith) (omega arith, omega arith) le ends)
      (raw_pieces a b p q k w content (p + prefix_of content + 1 + count + 1) (q + prefix_of content + 1 + count + 1) (end - 1 - count) (n - 1 - count) (omega arith, omega arith) (omega arith, omega arith) (omega arith) sound)
      refl (suffix_same a b p q k w end n (omega arith) (omega arith) (Ends-boundary a w.utf8 p inside_a bound (Raw content count) end ends) suffix) w.holds
  literal_next before o end (apostrophes content) e ends sound suffix =
      let le = IsSuffix-le a end (p + k) suffix in
      let after = IsQuoted-after 39 a (p + prefix_of content + 1) end ends in
      let n = end + q - p in
      made b q Literal (Apostrophes content) n (q + k) (opens_literal b q (Apostrophes content) (literal_there before (Apostrophes content) end e ends le))
      (quoted_same a b p q k w 39 (p + prefix_of content + 1) (q + prefix_of content + 1) end n (omega arith, omega arith) (omega arith, omega arith) le ends)
      (character_piece a b p q k w content (p + prefix_of content + 1) (q + prefix_of content + 1) (end - 1) (n - 1) (omega arith, omega arith) (omega arith, omega arith) (omega arith) sound)
      refl (suffix_same a b p q k w end n (omega arith) (omega arith) (Ends-boundary a w.utf8 p inside_a bound (Apostrophes content) end ends) suffix) w.holds
  literal_next before o end (character_between d) e ends sound suffix =
      let le = IsSuffix-le a end (p + k) suffix in
      let close = ends.after in
      let moves = past-moves a (p + 1) in
      let n = end + q - p in
      let spots = same_past a b p q k w (p + 1) (q + 1) (omega arith) (omega arith) (omega arith) (ascii_next d) in
      made b q Literal Character n (q + k) (opens_literal b q Character (literal_there before Character end e ends le))
      (record { quote = w.same (past a (p + 1)) (past b (q + 1)) spots (omega arith) (omega arith) ∙ ends.quote; after = omega arith })
      (λ f. sound (sym (w.same (p + 1) (q + 1) (omega arith) (omega arith) (omega arith)) ∙ f))
      refl (suffix_same a b p q k w end n (omega arith) (omega arith) (Ends-boundary a w.utf8 p inside_a bound Character end ends) suffix) w.holds

  -- comments

  comment_parts : (s l c : Bool) (m n : LexemeKind) (o : Opening) → cond (not s) None (cond l (Some (Line m)) (cond c (Some (Block n)) None)) ≡ Some o → (s ≡ true) × (((l ≡ true) × (o ≡ Line m)) ⊎ ((l ≡ false) × (c ≡ true) × (o ≡ Block n)))
  comment_parts false l c m n o e = absurd (cc)
  comment_parts true true c m n o e = (refl, inl (refl, cc))
  comment_parts true false true m n o e = (refl, inr (refl, refl, cc))
  comment_parts true false false m n o e = absurd (cc)

  -- a byte that ends no line
  pub no_line_end : (x : ℕ) → get_or a x 0 ≢ 10 → get_or a x 0 ≢ 13 → 0 < get_or a x 0 → IsLineEnd a x → ⊥
  no_line_end x no_feed no_return visible r = elim (cases_lt x r.feed) [
    | inl l ↦ no_return (r.returns x (omega arith) l)
    | inr l ↦
        let begun = r.begun in
        let here : r.feed ≡ x = omega arith in
        elim r.closes [
          | inl f ↦ absurd (let g = get_or_past a x 0 (omega arith) in omega arith)
          | inr f ↦ no_feed (ap (λ i. get_or a i 0) (sym here) ∙ f)
        ]
  ]

  doc_or_gap : (t : Bool) → (cond t Doc Gap ≡ Doc) ⊎ (cond t Doc Gap ≡ Gap)
  doc_or_gap true = inl refl
  doc_or_gap false = inr refl

  pub line_kind_cases : (x : ℕ) → (line_kind a x ≡ Doc) ⊎ (line_kind a x ≡ Gap)
  unfolding line_kind
  line_kind_cases x = doc_or_gap ((get_or a x 0 == 33) || ((get_or a x 0 == 47) && not (get_or a (x + 1) 0 == 47)))

  pub block_kind_cases : (x : ℕ) → (block_kind a x ≡ Doc) ⊎ (block_kind a x ≡ Gap)
  unfolding block_kind
  block_kind_cases x = doc_or_gap ((get_or a x 0 == 33) || ((get_or a x 0 == 42) && not ((get_or a (x + 1) 0 == 42) || (get_or a (x + 1) 0 == 47))))

  test_doc : (t : Bool) → cond t Doc Gap ≡ Doc → t ≡ true
  test_doc true e = refl
  test_doc false e = absurd (cc)

  pub doc_byte : (x : ℕ) → line_kind a x ≡ Doc → (get_or a x 0 ≡ 33) ⊎ (get_or a x 0 ≡ 47)
  unfolding line_kind
  doc_byte x e =
      let c = get_or a x 0 in
      let d = get_or a (x + 1) 0 in
      elim (or_cases (c == 33) ((c == 47) && not (d == 47)) (test_doc ((c == 33) || ((c == 47) && not (d == 47))) e)) [
        | inl f ↦ inl (eqb-true c 33 f)
        | inr f ↦ let g = and_parts (c == 47) (not (d == 47)) f in inr (eqb-true c 47 g.0)
      ]

  line_there : get_or a p 0 ≡ 47 → get_or a (p + 1) 0 ≡ 47 → p + 2 < p + k → line_kind a (p + 2) ≡ Doc → comment_opening b q ≡ Some (Line Doc)
  unfolding comment_opening
  line_there e f l is = rw (w.same p q (omega arith) (omega arith) (omega arith) ∙ e, w.same (p + 1) (q + 1) (omega arith) (omega arith) (omega arith) ∙ f, line_doc a b p q k w (p + 2) (q + 2) (omega arith) (omega arith) l is) refl

  block_there : get_or a p 0 ≡ 47 → get_or a (p + 1) 0 ≡ 42 → p + 3 < p + k → block_kind a (p + 2) ≡ Doc → comment_opening b q ≡ Some (Block Doc)
  unfolding comment_opening
  block_there e f l is = rw (w.same p q (omega arith) (omega arith) (omega arith) ∙ e, w.same (p + 1) (q + 1) (omega arith) (omega arith) (omega arith) ∙ f, block_doc a b p q k w (p + 2) (q + 2) (omega arith) (omega arith) (omega arith) ∙ is) refl

  -- after a line comes its end
  abbrev LineEnds : Type 0
  LineEnds = (get_or b (q + k) 0 ≡ 10) ⊎ (q + k ≡ length b)

  line_next : literal_at a p ≡ None → get_or a p 0 ≡ 47 → get_or a (p + 1) 0 ≡ 47 → line_kind a (p + 2) ≡ Doc → IsFirst (IsLineEnd a) (p + 2) (p + k) → LineEnds → IsNext b q Doc (q + k)
  line_next none e f is ends last =
      let begun = ends.begun in
      let l : p + 2 < p + k = elim (cases_lt (p + 2) (p + k)) [
        | inl m ↦ m
        | inr m ↦ absurd (let here : p + k ≡ p + 2 = omega arith in let r = subst (IsLineEnd a) here ends.holds in elim (doc_byte (p + 2) is) [
          | inl g ↦ no_line_end (p + 2) (λ h. omega arith) (λ h. omega arith) (omega arith) r
          | inr g ↦ no_line_end (p + 2) (λ h. omega arith) (λ h. omega arith) (omega arith) r
        ])
      ] in
      made b q Doc (Line Doc) (q + k) (q + k) (opens_comment b q (Line Doc) (no_literal (slash_start e) (λ g. omega arith) none) (line_there e f l is))
      (line_same a b p q k w (p + 2) (q + 2) (omega arith, omega arith) last ends) tt refl refl w.holds

  block_next : literal_at a p ≡ None → get_or a p 0 ≡ 47 → get_or a (p + 1) 0 ≡ 42 → block_kind a (p + 2) ≡ Doc → Ends a p (Block Doc) (p + k) → IsNext b q Doc (q + k)
  block_next none e f is ends =
      let long = closes_long a b p q k w 1 (p + 2) (p + k) ends (omega arith) in
      made b q Doc (Block Doc) (q + k) (q + k) (opens_comment b q (Block Doc) (no_literal (slash_start e) (λ g. omega arith) none) (block_there e f (omega arith) is))
      (closes_same a b p q k w 1 (p + 2) (q + 2) (p + k) (q + k) ends (omega arith, omega arith) (omega arith, omega arith) (omega arith)) tt refl refl w.holds

  -- identifiers

  word_there : is_space (character a p) ≡ false → IsName b q (q + k) → other_opening b q ≡ Word
  unfolding other_opening
  word_there space name =
      let s : is_space (character b q) ≡ false = ap is_space (same_character a b p q k w p q (omega arith) (omega arith) (omega (arith, w.filled)) bound) ∙ space in
      rw s (some (name_at b q) name)
    where
      some : (o : Option ℕ) → MatchOption o ⊥ (λ n. Run (Passes is_continuing b) (past b n) (q + k)) → cond (is_some o) Word (unwrap_or (option_map Single (single_kind b q)) Nothing) ≡ Word
      some None r = absurd r
      some (Some n) r = refl

  word_next : comment_opening a p ≡ None → is_space (character a p) ≡ false → IsName a p (p + k) → IsNext b q Identifier (q + k)
  word_next other space name =
      let name' = name_same a b p q k w p q (omega arith) (omega arith) bound name in
      made b q Identifier Word (q + k) (q + k)
      (opens_other b q Word (literal_at-none b q (name_no_literal b (q + k) (blank_byte a b p q k w (q + k) refl) q name')) (no_comment a b p q k w p q (omega arith) (omega arith) (omega (arith, w.filled)) other) (word_there space name'))
      name' tt refl refl w.holds

  -- lexemes of one character

  single_cases : (m l f : Bool) (s : Spacing) (d : Option LexemeKind) (kind : LexemeKind) → cond m (Some (Punctuation s)) (cond l (Some (Punctuation Joint)) (cond f (Some Gap) d)) ≡ Some kind →
      ((m ≡ true) × (kind ≡ Punctuation s)) ⊎ (((m ≡ false) × (l ≡ true) × (kind ≡ Punctuation Joint)) ⊎ ((kind ≡ Gap) ⊎ ((m ≡ false) × (l ≡ false) × (d ≡ Some kind))))
  single_cases true l f s d kind e = inl (refl, cc)
  single_cases false true f s d kind e = inr (inl (refl, refl, cc))
  single_cases false false true s d kind e = inr (inr (inl cc))
  single_cases false false false s d kind e = inr (inr (inr (refl, refl, e)))

  delimiter-mark : delimiter_kind 0xFEFF ≡ None
  unfolding delimiter_kind
  delimiter-mark = refl

  delimiter-quote : delimiter_kind 39 ≡ None
  unfolding delimiter_kind
  delimiter-quote = refl

  no_delimiter : (c d : ℕ) (kind : LexemeKind) → delimiter_kind c ≡ Some kind → delimiter_kind d ≡ None → (c == d) ≡ false
  no_delimiter c d kind e none = elim (cases_Bool (c == d)) [
    | inl t ↦ absurd (let f : Some kind ≡ None = sym e ∙ ap delimiter_kind (eqb-true c d t) ∙ none in cc)
    | inr t ↦ t
  ]

  -- joint punctuation is before another byte of the window, and any other punctuation fills it
  abbrev IsPlaced : LexemeKind → Type 0
  IsPlaced kind = (kind ≡ Punctuation Joint → past a p < p + k) × ((kind ≡ Punctuation Joint → ⊥) → past a p ≡ p + k)

  spacing_there : (s : Spacing) → IsPlaced (Punctuation s) → spacing a (past a p) ≡ s → spacing b (past b q) ≡ s
  spacing_there Joint placed e = joint_same a b p q k w (past a p) (past b q) (same_past a b p q k w p q (omega arith) (omega arith) (omega (arith, w.filled)) bound) (omega arith) (placed.0 refl) e
  spacing_there Alone placed e =
      let f = same_past a b p q k w p q (omega arith) (omega arith) (omega (arith, w.filled)) bound in
      let g = placed.1 (λ h. absurd (cc)) in
      alone_blank a b p q k w (past b q) (omega arith)

  single_there : (kind : LexemeKind) → kind ≢ Gap → IsPlaced kind → single_kind a p ≡ Some kind → single_kind b q ≡ Some kind
  unfolding single_kind
  single_there kind no_gap placed e =
      let c = character a p in
      let d = character b q in
      let same : d ≡ c = same_character a b p q k w p q (omega arith) (omega arith) (omega (arith, w.filled)) bound in
      let spots = same_past a b p q k w p q (omega arith) (omega arith) (omega (arith, w.filled)) bound in
      let next = past-boundary a p w.utf8 bound inside_a in
      let ahead = past-moves a p in
      let l' = (d == 39) && is_start (character b (past b q)) in
      let f' = (d == 0xFEFF) && (q == 0) in
      let s' = spacing b (past b q) in
      let after_l = cond l' (Some (Punctuation Joint)) (cond f' (Some Gap) (delimiter_kind d)) in
      elim (single_cases (is_mark c) ((c == 39) && is_start (character a (past a p))) ((c == 0xFEFF) && (p == 0)) (spacing a (past a p)) (delimiter_kind c) kind e) [
        | inl (m, is) ↦
            let there : s' ≡ spacing a (past a p) = spacing_there (spacing a (past a p)) (subst IsPlaced is placed) refl in
            cond-true (is_mark d) (Some (Punctuation s')) after_l (ap is_mark same ∙ m) ∙ ap (λ s. Some (Punctuation s)) there ∙ ap (λ (x : LexemeKind). Some x) (sym is)
        | inr r ↦ elim r [
          | inl (m, l, is) ↦
              let parts = and_parts (c == 39) (is_start (character a (past a p))) l in
              let start : is_start (character b (past b q)) ≡ true = ap is_start (same_character a b p q k w (past a p) (past b q) spots (omega arith) (placed.0 is) next) ∙ parts.1 in
              let quote : (d == 39) ≡ true = ap (λ x. x == 39) same ∙ parts.0 in
              cond-false (is_mark d) (Some (Punctuation s')) after_l (ap is_mark same ∙ m)
              ∙ cond-true l' (Some (Punctuation Joint)) (cond f' (Some Gap) (delimiter_kind d)) (and_from (d == 39) (is_start (character b (past b q))) quote start) ∙ ap (λ (x : LexemeKind). Some x) (sym is)
          | inr s ↦ elim s [
            | inl is ↦ absurd (no_gap is)
            | inr (m, l, is) ↦
                let is' : delimiter_kind d ≡ Some kind = ap delimiter_kind same ∙ is in
                cond-false (is_mark d) (Some (Punctuation s')) after_l (ap is_mark same ∙ m)
                ∙ cond-false l' (Some (Punctuation Joint)) (cond f' (Some Gap) (delimiter_kind d)) (and_left (d == 39) (is_start (character b (past b q))) (no_delimiter d 39 kind is' delimiter-quote))
                ∙ cond-false f' (Some Gap) (delimiter_kind d) (and_left (d == 0xFEFF) (q == 0) (no_delimiter d 0xFEFF kind is' delimiter-mark))
                ∙ is'
          ]
        ]
      ]

  delimiter_conds : (s t u v x y : Bool) (c d e f g h : LexemeKind) → c ≢ Literal → d ≢ Literal → e ≢ Literal → f ≢ Literal → g ≢ Literal → h ≢ Literal →
      cond s (Some c) (cond t (Some d) (cond u (Some e) (cond v (Some f) (cond x (Some g) (cond y (Some h) None))))) ≡ Some Literal → ⊥
  delimiter_conds true t u v x y c d e f g h i j k' l m n o = i (cc)
  delimiter_conds false true u v x y c d e f g h i j k' l m n o = j (cc)
  delimiter_conds false false true v x y c d e f g h i j k' l m n o = k' (cc)
  delimiter_conds false false false true x y c d e f g h i j k' l m n o = l (cc)
  delimiter_conds false false false false true y c d e f g h i j k' l m n o = m (cc)
  delimiter_conds false false false false false true c d e f g h i j k' l m n o = n (cc)
  delimiter_conds false false false false false false c d e f g h i j k' l m n o = absurd (cc)

  no_literal_delimiter : (c : ℕ) → delimiter_kind c ≡ Some Literal → ⊥
  unfolding delimiter_kind
  no_literal_delimiter c e = delimiter_conds (c == 40) (c == 41) (c == 91) (c == 93) (c == 123) (c == 125) _ _ _ _ _ _ (λ f. absurd (cc)) (λ f. absurd (cc)) (λ f. absurd (cc)) (λ f. absurd (cc)) (λ f. absurd (cc)) (λ f. absurd (cc)) e

  pub single_no_literal : single_kind a p ≡ Some Literal → ⊥
  unfolding single_kind
  single_no_literal e =
      let c = character a p in
      elim (single_cases (is_mark c) ((c == 39) && is_start (character a (past a p))) ((c == 0xFEFF) && (p == 0)) (spacing a (past a p)) (delimiter_kind c) Literal e) [
        | inl r ↦ absurd (let f = r.1 in cc)
        | inr r ↦ elim r [ inl s ↦ absurd (let f = s.2 in cc) | inr s ↦ elim s [ inl t ↦ absurd (cc) | inr t ↦ no_literal_delimiter c t.2 ] ]
      ]

  pub unsuffixed : (kind : LexemeKind) (end to : ℕ) → kind ≢ Literal → IsSuffixed a kind end to → to ≡ end
  unsuffixed Literal end to other r = absurd (other refl)
  unsuffixed Gap end to other r = r
  unsuffixed Identifier end to other r = r
  unsuffixed Doc end to other r = r
  unsuffixed (Punctuation s) end to other r = r
  unsuffixed (OpeningKind d) end to other r = r
  unsuffixed (Closing d) end to other r = r

  -- an apostrophe that does not begin a literal is joint
  quote_joint : (kind : LexemeKind) → kind ≢ Gap → single_kind a p ≡ Some kind → get_or a p 0 ≡ 39 → kind ≡ Punctuation Joint
  unfolding single_kind
  quote_joint kind no_gap e f =
      let c = character a p in
      let is : c ≡ 39 = character-ascii a p (omega arith) ∙ f in
      elim (single_cases (is_mark c) ((c == 39) && is_start (character a (past a p))) ((c == 0xFEFF) && (p == 0)) (spacing a (past a p)) (delimiter_kind c) kind e) [
        | inl r ↦ absurd (false≢true (sym mark-39 ∙ ap is_mark (sym is) ∙ r.0))
        | inr r ↦ elim r [
          | inl s ↦ s.2
          | inr s ↦ elim s [
            | inl t ↦ absurd (no_gap t)
            | inr t ↦ absurd (let g : Some kind ≡ None = sym t.2 ∙ ap delimiter_kind is ∙ delimiter-quote in cc)
          ]
        ]
      ]

  single_other : (kind : LexemeKind) → is_space (character b q) ≡ false → name_at b q ≡ None → single_kind b q ≡ Some kind → other_opening b q ≡ Single kind
  unfolding other_opening
  single_other kind s n e = rw (s, n, e) refl

  single_next : (kind : LexemeKind) → literal_at a p ≡ None → comment_opening a p ≡ None → is_space (character a p) ≡ false → is_start (character a p) ≡ false → single_kind a p ≡ Some kind → kind ≢ Gap → IsPlaced kind → IsNext b q kind (past b q)
  single_next kind none other space start e no_gap placed =
      let same = same_character a b p q k w p q (omega arith) (omega arith) (omega (arith, w.filled)) bound in
      let spots = same_past a b p q k w p q (omega arith) (omega arith) (omega (arith, w.filled)) bound in
      let within = past_within a b p q k w p (omega arith) (omega (arith, w.filled)) bound in
      let no_literal_kind : kind ≢ Literal = λ f. single_no_literal (e ∙ ap (λ (x : LexemeKind). Some x) f) in
      let quote : get_or a p 0 ≡ 39 → p + 1 < p + k = λ f. let one = past-ascii a p (omega arith) in let l = placed.0 (quote_joint kind no_gap e f) in omega arith in
      made b q kind (Single kind) (past b q) (past b q)
      (opens_other b q (Single kind) (no_literal start quote none) (no_comment a b p q k w p q (omega arith) (omega arith) (omega (arith, w.filled)) other)
      (single_other kind (ap is_space same ∙ space) (no_name a b p q k w bound start) (single_there kind no_gap placed e)))
      refl tt refl (no_suffix b kind (past b q) no_literal_kind) (omega (arith, w.holds, spots))

  -- lexemes that are neither literals nor comments
  pub data Others : Opening → Type 0 where
    space_there : is_space (character a p) ≡ true → Others Space
    word_opens : is_space (character a p) ≡ false → Others Word
    single_opens : (kind : LexemeKind) → is_space (character a p) ≡ false → is_start (character a p) ≡ false → single_kind a p ≡ Some kind → Others (Single kind)
    nothing_opens : Others Nothing

  others_by : (s : Bool) (n : Option ℕ) (g : Option LexemeKind) → is_space (character a p) ≡ s → Names a p n → single_kind a p ≡ g → Others (cond s Space (cond (is_some n) Word (unwrap_or (option_map Single g) Nothing)))
  others_by true n g e f h = space_there e
  others_by false n g e (raw t) h = word_opens e
  others_by false n g e (plain t) h = word_opens e
  others_by false n None e (nothing t) h = nothing_opens
  others_by false n (Some kind) e (nothing t) h = single_opens kind e t h

  pub others : Others (other_opening a p)
  unfolding other_opening
  others = others_by (is_space (character a p)) (name_at a p) (single_kind a p) refl (names a p) refl

  -- where a lexeme ends in the window
  abbrev pub IsAt : LexemeKind → ℕ → Type 0
  IsAt kind to = (kind ≡ Punctuation Joint → to < p + k) × ((kind ≡ Punctuation Joint → ⊥) → to ≡ p + k)

  abbrev Result : LexemeKind → ℕ → Type 0
  Result kind to = IsNext b q kind (to + q - p)

  here : (kind : LexemeKind) (to : ℕ) → to ≡ p + k → IsNext b q kind (q + k) → Result kind to
  here kind to e n = let f : to + q - p ≡ q + k = omega arith in rw f n

  other_result : (o : Opening) → Others o → literal_at a p ≡ None → comment_opening a p ≡ None → (end to : ℕ) → Ends a p o end → kind_of o ≢ Gap → IsSuffixed a (kind_of o) end to → IsAt (kind_of o) to → Result (kind_of o) to
  other_result o (space_there s) none other end to ends no_gap suffixed at = absurd (no_gap refl)
  other_result o (word_opens s) none other end to ends no_gap suffixed at =
      let is : to ≡ p + k = at.1 (λ e. absurd (cc)) in
      here Identifier to is (word_next other s (subst (IsName a p) (sym suffixed ∙ is) ends))
  other_result o (single_opens kind s t e) none other end to ends no_gap suffixed at =
      let is : to ≡ past a p = unsuffixed kind end to (λ f. single_no_literal (e ∙ ap (λ (x : LexemeKind). Some x) f)) suffixed ∙ ends in
      let spots = same_past a b p q k w p q (omega arith) (omega arith) (omega (arith, w.filled)) bound in
      let n : to + q - p ≡ past b q = omega arith in
      rw n (single_next kind none other s t e no_gap (λ f. omega (arith, at.0 f), λ f. omega (arith, at.1 f)))
  other_result o nothing_opens none other end to ends no_gap suffixed at = absurd ends

  pub comment_cases : (o : Opening) → comment_opening a p ≡ Some o → (get_or a p 0 ≡ 47) × (((get_or a (p + 1) 0 ≡ 47) × (o ≡ Line (line_kind a (p + 2)))) ⊎ ((get_or a (p + 1) 0 ≡ 42) × (o ≡ Block (block_kind a (p + 2)))))
  unfolding comment_opening
  comment_cases o e =
      let r = comment_parts (get_or a p 0 == 47) (get_or a (p + 1) 0 == 47) (get_or a (p + 1) 0 == 42) (line_kind a (p + 2)) (block_kind a (p + 2)) o e in (
        eqb-true (get_or a p 0) 47 r.0,
        elim r.1 [
          | inl s ↦ inl (eqb-true (get_or a (p + 1) 0) 47 s.0, s.1)
          | inr s ↦ inr (eqb-true (get_or a (p + 1) 0) 42 s.1, s.2)
        ],
      )

  line_result : (kind : LexemeKind) (to end : ℕ) → literal_at a p ≡ None → get_or a p 0 ≡ 47 → get_or a (p + 1) 0 ≡ 47 → line_kind a (p + 2) ≡ kind → kind ≢ Gap → Ends a p (Line kind) end → IsSuffixed a kind end to → IsAt kind to → LineEnds → Result kind to
  line_result kind to end none e f is no_gap ends suffixed at last = elim (line_kind_cases (p + 2)) [
    | inr g ↦ absurd (no_gap (sym is ∙ g))
    | inl g ↦
        let doc : kind ≡ Doc = sym is ∙ g in
        let same : to ≡ end = unsuffixed kind end to (λ h. absurd (let i : Doc ≡ Literal = sym doc ∙ h in cc)) suffixed in
        let there : to ≡ p + k = at.1 (λ h. absurd (let i : Doc ≡ Punctuation Joint = sym doc ∙ h in cc)) in
        here kind to there (subst (λ x. IsNext b q x (q + k)) (sym doc) (line_next none e f g (subst (IsFirst (IsLineEnd a) (p + 2)) (sym same ∙ there) ends) last))
  ]

  block_result : (kind : LexemeKind) (to end : ℕ) → literal_at a p ≡ None → get_or a p 0 ≡ 47 → get_or a (p + 1) 0 ≡ 42 → block_kind a (p + 2) ≡ kind → kind ≢ Gap → Ends a p (Block kind) end → IsSuffixed a kind end to → IsAt kind to → Result kind to
  block_result kind to end none e f is no_gap ends suffixed at = elim (block_kind_cases (p + 2)) [
    | inr g ↦ absurd (no_gap (sym is ∙ g))
    | inl g ↦
        let doc : kind ≡ Doc = sym is ∙ g in
        let same : to ≡ end = unsuffixed kind end to (λ h. absurd (let i : Doc ≡ Literal = sym doc ∙ h in cc)) suffixed in
        let there : to ≡ p + k = at.1 (λ h. absurd (let i : Doc ≡ Punctuation Joint = sym doc ∙ h in cc)) in
        here kind to there (subst (λ x. IsNext b q x (q + k)) (sym doc) (block_next none e f g (subst (Ends a p (Block Doc)) (sym same ∙ there) ends)))
  ]

  pub literal_kind : (o : Opening) → IsLiteral a p o → kind_of o ≡ Literal
  literal_kind o (number e) = refl
  literal_kind o (quotes content) = refl
  literal_kind o (raw_quotes content count) = refl
  literal_kind o (apostrophes content) = refl
  literal_kind o (character_between e) = refl

  result : Before → (o : Opening) → Opens a p o → (end to : ℕ) → Ends a p o end → IsSound a p o end → kind_of o ≢ Gap → IsSuffixed a (kind_of o) end to → IsAt (kind_of o) to → (get_or a (p + 1) 0 ≡ 47 → kind_of o ≡ Doc → LineEnds) → Result (kind_of o) to
  result before o (by_other none other) end to ends sound no_gap suffixed at last = other_result (other_opening a p) others none other end to ends no_gap suffixed at
  result before o (by_literal _ e) end to ends sound no_gap suffixed at last =
      let is = is_literal a p o e in
      let lit = literal_kind o is in
      let there : to ≡ p + k = at.1 (λ h. absurd (let i : Literal ≡ Punctuation Joint = sym lit ∙ h in cc)) in
      let suffix : IsSuffix a end (p + k) = subst (IsSuffix a end) there (subst (λ x. IsSuffixed a x end to) lit suffixed) in
      here (kind_of o) to there (subst (λ x. IsNext b q x (q + k)) (sym lit) (literal_next before o end is e ends sound suffix))
  result before o (by_comment _ none e) end to ends sound no_gap suffixed at last =
      let r = comment_cases o e in
      elim r.1 [
        | inl s ↦
            let k_is : kind_of o ≡ line_kind a (p + 2) = ap kind_of s.1 in
            let o_is : o ≡ Line (kind_of o) = s.1 ∙ ap (λ x. Line x) (sym k_is) in
            let doc : kind_of o ≡ Doc = elim (line_kind_cases (p + 2)) [ inl g ↦ k_is ∙ g | inr g ↦ absurd (no_gap (k_is ∙ g)) ] in
            line_result (kind_of o) to end none r.0 s.0 (sym k_is) no_gap (subst (λ x. Ends a p x end) o_is ends) suffixed at (last s.0 doc)
        | inr s ↦
            let k_is : kind_of o ≡ block_kind a (p + 2) = ap kind_of s.1 in
            let o_is : o ≡ Block (kind_of o) = s.1 ∙ ap (λ x. Block x) (sym k_is) in
            block_result (kind_of o) to end none r.0 s.0 (sym k_is) no_gap (subst (λ x. Ends a p x end) o_is ends) suffixed at
      ]

  -- a lexeme that ends in the window occurs in the second text
  pub next_same : (follows_apostrophe b q ≡ true → follows_apostrophe a p ≡ true) → (kind : LexemeKind) (to : ℕ) → IsNext a p kind to → kind ≢ Gap → IsAt kind to → (get_or a (p + 1) 0 ≡ 47 → kind ≡ Doc → LineEnds) → IsNext b q kind (to + q - p)
  next_same before kind to n no_gap at last =
      let o = opening_at a p in
      let e = n.is_kind in
      subst (λ x. Result x to) (sym e) (result before o (opens_at a p) n.end to n.ends n.sound (λ f. no_gap (e ∙ f)) (subst (λ x. IsSuffixed a x n.end to) e n.suffixed) (subst (λ x. IsAt x to) e at) (λ f g. last f (e ∙ g)))
