-- The pieces of a printed text.
use Rattle.std.proofs.Common.{◌≡◌, ◌≢◌, ℕ, ◌+◌, ◌-◌, ◌<◌, ◌≤◌, ◌⊎◌, inl, inr, true, false, List, [], ◌∷◌, ◌++◌, map, length, get_or, drop, slice_range, None, IsUtf8, refl, sym, ◌∙◌, ap, subst, arith, length-drop, get_or-drop}
use Rattle.std.proofs.lemmas.Bool.{false≢true}
use Rattle.std.proofs.lemmas.List.{map-append}
use Rattle.std.proofs.lemmas.List.Edits.{length-between}
use Rattle.std.specs.Str.{IsCharBoundary}
use Rattle.logos_lexeme.specs.declared.lexeme.Span.{Span}
use Rattle.logos_lexeme.specs.declared.lexeme.Spacing.TheVariants.{Joint}
use Rattle.logos_lexeme.specs.declared.lexeme.LexemeKind.{LexemeKind}
use Rattle.logos_lexeme.specs.declared.lexeme.LexemeKind.TheVariants.{Gap, Identifier, Literal, Doc, Punctuation, Opening, Closing}
use Rattle.logos_lexeme.specs.declared.lexeme.openings.Opening.TheVariants.{Space}
use Rattle.logos_lexeme.specs.LexemeCharacters.{character, past, is_space}
use Rattle.logos_lexeme.specs.LexemeRuns.{here}
use Rattle.logos_lexeme.specs.LexemeOpenings.{literal_opening, string_opening, comment_opening, other_opening, follows_apostrophe, opening_at}
use Rattle.logos_lexeme.specs.Lexemes.{IsNext}
use Rattle.logos_token.specs.Tokens.{TokenList}
use Rattle.logos_token.specs.Spelling.{Piece, Pieces, lexeme_of, lexemes, seen}
use Rattle.logos_token.specs.Printing.{Part, printed}
use Rattle.logos_token.specs.PrintedAgain.{SpellsAgain}
use Rattle.logos_lexeme.proofs.CharacterLaws.{character-ascii, past-ascii, inside_from_byte}
use Rattle.logos_token.proofs.reading.PieceLemmas.{piece-advances, piece-boundary}
use Rattle.logos_lexeme.proofs.again.PrintWindows.{same_character, same_slice}
use Rattle.logos_lexeme.proofs.again.PrintLifetimes.{follows-none, follows-other, follows-same, literal_at-none}
use Rattle.logos_lexeme.proofs.again.PrintLexemes.{next_same}
use Rattle.logos_token.proofs.printing.PrintParts.{parts, parts-append, after, bare_lexeme, printed-lexemes, rebuilt-whole}
use Rattle.logos_token.proofs.printing.PrintPieces.{gap_of, IsSeparator, joint_or_not, joint_from, separates, whole_length, drop_on, slice_same, shown, HasText, HasDocs, Follows, Joined}

-- a gap of one byte

abbrev pub IsBlankByte : ℕ → Type 0
IsBlankByte c = (c ≡ 32) ⊎ (c ≡ 10)

module _ (b : List ℕ) (q : ℕ) where
  blank_string : IsBlankByte (get_or b q 0) → literal_opening b q ≡ None
  unfolding literal_opening string_opening
  blank_string (inl e) = rw e refl
  blank_string (inr e) = rw e refl

  blank_comment : IsBlankByte (get_or b q 0) → comment_opening b q ≡ None
  unfolding comment_opening
  blank_comment (inl e) = rw e refl
  blank_comment (inr e) = rw e refl

  blank_space : IsBlankByte (get_or b q 0) → is_space (character b q) ≡ true
  unfolding is_space
  blank_space (inl e) = rw (character-ascii b q (omega arith), e) refl
  blank_space (inr e) = rw (character-ascii b q (omega arith), e) refl

  blank_other : IsBlankByte (get_or b q 0) → other_opening b q ≡ Space
  unfolding other_opening
  blank_other e = rw (blank_space e) refl

  blank_opens : IsBlankByte (get_or b q 0) → opening_at b q ≡ Space
  unfolding opening_at
  blank_opens e = rw (literal_at-none b q (blank_string e), blank_comment e) (blank_other e)

  blank_small : IsBlankByte (get_or b q 0) → (0 < get_or b q 0) × (get_or b q 0 < 128)
  blank_small (inl e) = (omega arith, omega arith)
  blank_small (inr e) = (omega arith, omega arith)

  pub gap_next : IsBlankByte (get_or b q 0) → is_space (character b (q + 1)) ≡ false → IsNext b q Gap (q + 1)
  gap_next e other =
      let small = blank_small e in
      let one : past b q ≡ q + 1 = past-ascii b q small.1 in
      let inside = inside_from_byte b q small.0 in
      let opens = blank_opens e in
      subst (IsNext b q Gap) one (record {
        end = past b q;
        ends = rw opens (record { steps = here; stop = λ next s. false≢true (sym other ∙ ap (λ i. is_space (character b i)) (sym one) ∙ s.passes) });
        sound = rw opens tt;
        is_kind = rw opens refl;
        suffixed = refl;
        within = omega arith;
      })

pub gap_or_not : (kind : LexemeKind) → (kind ≡ Gap) ⊎ (kind ≢ Gap)
gap_or_not Gap = inl refl
gap_or_not Identifier = inr (λ e. absurd (cc))
gap_or_not Literal = inr (λ e. absurd (cc))
gap_or_not Doc = inr (λ e. absurd (cc))
gap_or_not (Punctuation s) = inr (λ e. absurd (cc))
gap_or_not (Opening d) = inr (λ e. absurd (cc))
gap_or_not (Closing d) = inr (λ e. absurd (cc))

-- a lexeme is the same in texts with equal bytes there
pub same_lexeme : (a b : List ℕ) (kind : LexemeKind) (s t : Span) → slice_range b t.from t.to ≡ slice_range a s.from s.to → get_or b t.from 0 ≡ get_or a s.from 0 → map bare_lexeme (lexeme_of b kind t) ≡ map bare_lexeme (lexeme_of a kind s)
same_lexeme a b Gap s t e f = refl
same_lexeme a b Identifier s t e f = rw e refl
same_lexeme a b Literal s t e f = rw e refl
same_lexeme a b Doc s t e f = rw e refl
same_lexeme a b (Punctuation sp) s t e f = rw f refl
same_lexeme a b (Opening d) s t e f = refl
same_lexeme a b (Closing d) s t e f = refl

-- no lexeme begins with white space
abbrev pub HasNoSpace : List ℕ → Type 0
HasNoSpace a = (kind : LexemeKind) (from to : ℕ) → IsCharBoundary a from → IsNext a from kind to → kind ≢ Gap → is_space (character a from) ≡ false

-- the pieces of the printed text from an offset on
record Remade (a b : List ℕ) (q : ℕ) (pieces : List Piece) : Type 0 where
  news : List Piece
  filled : Pieces b q news (length b)
  same : map bare_lexeme (seen b news) ≡ map bare_lexeme (seen a pieces)

record Begins (a b : List ℕ) (q : ℕ) (pieces : List Piece) : Type 0 where
  remade : Remade a b q pieces
  no_space : is_space (character b q) ≡ false

-- if there is a `'` directly before an offset of the second text, there is one directly before that
-- of the first, and another lexeme begins there
abbrev IsAfter : List ℕ → List ℕ → ℕ → ℕ → List Piece → Type 0
IsAfter a b p q pieces = follows_apostrophe b q ≡ true → (follows_apostrophe a p ≡ true) × Follows pieces

module _ (a : List ℕ) (utf8 : IsUtf8 a) (text : HasText a) (docs : HasDocs a) (spaces : HasNoSpace a) (b : List ℕ) where
  lexeme_step : (kind : LexemeKind) (p to q end : ℕ) (rest : List Piece) → kind ≢ Gap → IsNext a p kind to → Pieces a to rest end → (kind ≡ Punctuation Joint → Follows rest) → Joined rest → IsCharBoundary a p → q ≤ length b → (follows_apostrophe b q ≡ true → follows_apostrophe a p ≡ true) →
      drop q b ≡ slice_range a p to ++ after (gap_of a kind p to) (parts (seen a rest)) → Remade a b (q + (to - p)) rest → Begins a b q ((record { kind = kind; span = record { from = p; to = to } }) ∷ rest)
  lexeme_step kind p to q end rest no_gap next filled follow joined bound inside before e r =
      let s = shown a utf8 text docs b rest kind p to q end next filled follow joined bound inside e in
      let w = s.window in
      let adv = piece-advances a p kind to next in
      let ahead = adv.0 in
      let positive = w.filled in
      let is : to + q - p ≡ q + (to - p) = omega arith in
      let there : IsNext b q kind (q + (to - p)) = subst (IsNext b q kind) is (next_same a b p q s.size w bound before kind to next no_gap s.at s.line) in
      let le : to ≤ p + s.size = elim (joint_or_not kind) [ inl j ↦ omega (arith, s.at.0 j) | inr j ↦ omega (arith, s.at.1 j) ] in
      let span : Span = record { from = q; to = q + (to - p) } in
      let old : Span = record { from = p; to = to } in
      let same = same_lexeme a b kind old span (same_slice a b p q s.size w p q to (q + (to - p)) (omega arith) (omega arith) (omega arith) le (omega arith)) (w.same p q (omega arith) (omega arith) (omega arith)) in
      record {
        remade = record {
          news = (record { kind = kind; span = span }) ∷ r.news;
          filled = (refl, there, r.filled);
          same = map-append bare_lexeme (lexeme_of b kind span) (seen b r.news) ∙ ap (λ ls. ls ++ map bare_lexeme (seen b r.news)) same ∙ ap (λ ls. map bare_lexeme (lexeme_of a kind old) ++ ls) r.same ∙ sym (map-append bare_lexeme (lexeme_of a kind old) (seen a rest));
        };
        no_space = ap is_space (same_character a b p q s.size w p q (omega arith) (omega arith) (omega arith) bound) ∙ spaces kind p to bound next no_gap;
      }

  -- a gap in front
  with_gap : (c q : ℕ) (pieces : List Piece) → IsBlankByte c → get_or b q 0 ≡ c → Begins a b (q + 1) pieces → Remade a b q pieces
  with_gap c q pieces blank e s = record {
    news = (record { kind = Gap; span = record { from = q; to = q + 1 } }) ∷ s.remade.news;
    filled = (refl, gap_next b q (subst IsBlankByte (sym e) blank) s.no_space, s.remade.filled);
    same = s.remade.same;
  }

  at_gap : (c q : ℕ) (gap more : List ℕ) → gap ≡ c ∷ [] → q ≤ length b → drop q b ≡ gap ++ more → (get_or b q 0 ≡ c) × (drop (q + 1) b ≡ more) × (q + 1 ≤ length b)
  at_gap c q gap more g inside e =
      let f : drop q b ≡ (c ∷ []) ++ more = e ∙ ap (λ xs. xs ++ more) g in
      let z : q + 0 ≡ q = omega arith in
      (sym (ap (λ i. get_or b i 0) z) ∙ sym (get_or-drop q b 0 0) ∙ ap (λ (xs : List ℕ). get_or xs 0 0) f, drop_on b (c ∷ []) more q 1 refl inside f, omega (arith, whole_length b (c ∷ []) more q 1 refl inside f))

  remake : (pieces : List Piece) (p q end : ℕ) (gap : List ℕ) → Pieces a p pieces end → Joined pieces → IsCharBoundary a p → (gap ≡ []) ⊎ IsSeparator gap → (gap ≡ [] → IsAfter a b p q pieces) → q ≤ length b → drop q b ≡ after gap (parts (seen a pieces)) → Remade a b q pieces
  remake [] p q end gap filled joined bound parted after_mark inside e = record { news = []; filled = omega (arith, ap length e, length-drop q b); same = refl }
  remake (piece ∷ rest) p q end gap filled joined bound parted after_mark inside e = elim (gap_or_not piece.kind) [
    | inl g ↦
        let no_lexeme : lexeme_of a piece.kind piece.span ≡ [] = ap (λ x. lexeme_of a x piece.span) g in
        let skipped : seen a (piece ∷ rest) ≡ seen a rest = ap (λ ls. ls ++ seen a rest) no_lexeme in
        let r = remake rest piece.span.to q end gap filled.2 joined.1 (piece-boundary a p piece.kind piece.span.to utf8 bound filled.1) parted (λ none f. absurd ((after_mark none f).1 g)) inside (e ∙ ap (λ ls. after gap (parts ls)) skipped) in
        record { news = r.news; filled = r.filled; same = r.same ∙ ap (map bare_lexeme) (sym skipped) }
    | inr g ↦
        let to = piece.span.to in
        let kind = piece.kind in
        let span : Span = record { from = p; to = to } in
        let at : piece.span ≡ span = ap (λ f. let s : Span = record { from = f; to = to } in s) filled.0 in
        let adv = piece-advances a p kind to filled.1 in
        let long = length-between a p to adv.1 in
        let tail = after (gap_of a kind p to) (parts (seen a rest)) in
        let shape : parts (seen a (piece ∷ rest)) ≡ (let part : Part = record { text = slice_range a p to; gap = gap_of a kind p to } in part ∷ parts (seen a rest)) =
        parts-append (lexeme_of a kind piece.span) (seen a rest) ∙ ap (λ s. parts (lexeme_of a kind s) ++ parts (seen a rest)) at ∙ ap (λ ps. ps ++ parts (seen a rest)) (text kind p to bound filled.1 g) in
        let whole : drop q b ≡ gap ++ (slice_range a p to ++ tail) = e ∙ ap (after gap) shape in
        let back : Remade a b q ((record { kind = kind; span = span }) ∷ rest) → Remade a b q (piece ∷ rest) = λ r. record { news = r.news; filled = r.filled; same = r.same ∙ ap (λ s. map bare_lexeme (lexeme_of a kind s ++ seen a rest)) (sym at) } in
        let parted' : (gap_of a kind p to ≡ []) ⊎ IsSeparator (gap_of a kind p to) = elim (joint_or_not kind) [ inl j ↦ inl (ap (λ x. gap_of a x p to) j) | inr j ↦ inr (separates a kind p to j) ] in
        let after_this : (i : ℕ) → drop i b ≡ slice_range a p to ++ tail → gap_of a kind p to ≡ [] → IsAfter a b to (i + (to - p)) rest = λ i f none found.
        let spots : to - 1 + i ≡ i + (to - p) - 1 + p = omega (arith, adv.0) in
        let byte : get_or b (i + (to - p) - 1) 0 ≡ get_or a (to - 1) 0 = slice_same a utf8 text docs b p to i tail (omega (arith, adv.0)) adv.1 f (to - 1) (i + (to - p) - 1) spots (omega (arith, adv.0)) (omega (arith, adv.0)) in
        (follows-same a b to (i + (to - p)) (omega (arith, adv.0)) byte found, joined.0 (joint_from a kind p to none)) in
        let go : (i : ℕ) → i ≤ length b → (follows_apostrophe b i ≡ true → follows_apostrophe a p ≡ true) → drop i b ≡ slice_range a p to ++ tail → Begins a b i ((record { kind = kind; span = span }) ∷ rest) = λ i l before f.
        lexeme_step kind p to i end rest g filled.1 filled.2 joined.0 joined.1 bound l before f
        (remake rest to (i + (to - p)) end (gap_of a kind p to) filled.2 joined.1 (piece-boundary a p kind to utf8 bound filled.1) parted' (after_this i f) (omega (arith, whole_length b (slice_range a p to) tail i (to - p) long l f)) (drop_on b (slice_range a p to) tail i (to - p) long l f)) in
        back (elim parted [
          | inl none ↦ (go q inside (λ f. (after_mark none f).0) (whole ∙ ap (λ xs. xs ++ (slice_range a p to ++ tail)) none)).remade
          | inr some ↦ elim some [
            | inl s ↦ let f = at_gap 32 q gap (slice_range a p to ++ tail) s inside whole in with_gap 32 q _ (inl refl) f.0 (go (q + 1) f.2 (λ found. absurd (false≢true (sym (follows-other b q 32 f.0 refl) ∙ found))) f.1)
            | inr s ↦ let f = at_gap 10 q gap (slice_range a p to ++ tail) s inside whole in with_gap 10 q _ (inr refl) f.0 (go (q + 1) f.2 (λ found. absurd (false≢true (sym (follows-other b q 10 f.0 refl) ∙ found))) f.1)
          ]
        ])
  ]

-- the printed text of a run spells it again, where its lexemes are those of pieces in a row
pub printed_again : (a : List ℕ) → IsUtf8 a → HasText a → HasDocs a → HasNoSpace a → (run : TokenList) (pieces : List Piece) (from to : ℕ) → IsCharBoundary a from → Pieces a from pieces to → Joined pieces → lexemes run ≡ seen a pieces → SpellsAgain (printed run) run
printed_again a utf8 text docs spaces run pieces from to bound filled joined nested =
    let b = printed run in
    let e : drop 0 b ≡ after [] (parts (seen a pieces)) = printed-lexemes run ∙ ap (λ ls. after [] (parts ls)) nested in
    let r = remake a utf8 text docs spaces b pieces from 0 to [] filled joined bound (inl refl) (λ none found. absurd (false≢true (sym (follows-none b) ∙ found))) (omega arith) e in
    let t = rebuilt-whole run (seen b r.news) (r.same ∙ ap (map bare_lexeme) (sym nested)) in
    record { again = t.0; spelled = record { pieces = r.news; filled = r.filled; nested = t.1 }; same = t.2 }
