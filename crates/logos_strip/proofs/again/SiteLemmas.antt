-- The printed text of lexemes of a source, where some are left out, and commas in front of these
-- are alone.
use Rattle.std.proofs.Common.{◌≡◌, ◌≢◌, ℕ, ◌+◌, ◌-◌, ◌<◌, ◌≤◌, ◌⊎◌, inl, inr, true, false, cond, List, [], ◌∷◌, ◌++◌, map, length, get_or, drop, slice_range, None, IsUtf8, refl, sym, ◌∙◌, ap, subst, arith, length-drop, get_or-drop}
use Rattle.std.proofs.lemmas.Bool.{cases_lt, false≢true}
use Rattle.std.proofs.lemmas.List.{map-append}
use Rattle.std.proofs.lemmas.List.Edits.{length-between, get_or-between}
use Rattle.std.proofs.lemmas.List.Prefix.{at_reads}
use Rattle.std.proofs.lemmas.Str.{encode_ascii}
use Rattle.std.specs.Str.{IsCharBoundary}
use Rattle.logos_lexeme.specs.declared.lexeme.Span.{Span}
use Rattle.logos_lexeme.specs.declared.lexeme.Spacing.{Spacing}
use Rattle.logos_lexeme.specs.declared.lexeme.Spacing.TheVariants.{Alone, Joint}
use Rattle.logos_lexeme.specs.declared.lexeme.LexemeKind.{LexemeKind}
use Rattle.logos_lexeme.specs.declared.lexeme.LexemeKind.TheVariants.{Gap, Doc, Punctuation}
use Rattle.logos_lexeme.specs.LexemeCharacters.{character, is_space}
use Rattle.logos_lexeme.specs.LexemeOpenings.{follows_apostrophe}
use Rattle.logos_lexeme.specs.Lexemes.{IsNext}
use Rattle.logos_lexeme.proofs.again.PrintWindows.{Window, same_character, same_slice}
use Rattle.logos_lexeme.proofs.again.PrintLifetimes.{follows-none, follows-other, follows-same}
use Rattle.logos_lexeme.proofs.again.PrintLexemes.{next_same}
use Rattle.logos_token.specs.Tokens.{punctuation}
use Rattle.logos_token.specs.Spelling.{Piece, Pieces, Lexeme, leaf, lexeme_of, seen}
use Rattle.logos_token.specs.Printing.{Part}
use Rattle.logos_token.proofs.reading.PieceLemmas.{piece-advances, piece-boundary}
use Rattle.logos_token.proofs.printing.PrintParts.{parts, parts-append, after, bare_lexeme}
use Rattle.logos_token.proofs.printing.PrintPieces.{gap_of, IsSeparator, joint_or_not, joint_from, separates, second_slash, whole_length, drop_on, byte_afterward, gap_first, slice_same, Shown, HasText, HasDocs}
use Rattle.logos_token.proofs.printing.PrintAgain.{IsBlankByte, gap_next, same_lexeme, HasNoSpace}
use Rattle.logos_enum.specs.Marks.{comma}
use Rattle.logos_strip.proofs.again.CommaLemmas.{comma_space, comma_next}

-- the position of the equal lexeme of the source, or of a comma that is alone
pub data Site : Type 0 where
  same : (kind : LexemeKind) (from to : ℕ) → Site
  loose : (spacing : Spacing) (from to : ℕ) → Site

abbrev pub site_from : Site → ℕ
site_from (same kind from to) = from
site_from (loose spacing from to) = from

abbrev pub site_to : Site → ℕ
site_to (same kind from to) = to
site_to (loose spacing from to) = to

-- the lexeme in the source
abbrev site_kind : Site → LexemeKind
site_kind (same kind from to) = kind
site_kind (loose spacing from to) = Punctuation spacing

abbrev pub Continues : ℕ → List Site → Type 0
Continues at [] = ⊥
Continues at (s ∷ ss) = site_from s ≡ at

module _ (a : List ℕ) where
  abbrev pub site_lexemes : Site → List Lexeme
  site_lexemes (same kind from to) = lexeme_of a kind (record { from = from; to = to })
  site_lexemes (loose spacing from to) = leaf (punctuation comma Alone (record { from = from; to = to })) ∷ []

  abbrev pub sites_lexemes : List Site → List Lexeme
  sites_lexemes [] = []
  sites_lexemes (s ∷ ss) = site_lexemes s ++ sites_lexemes ss

  abbrev pub IsLexeme : LexemeKind → ℕ → ℕ → Type 0
  IsLexeme kind from to = IsCharBoundary a from × IsNext a from kind to × (kind ≢ Gap)

  -- the facts that determine the site
  abbrev pub IsSite : Site → List Site → Type 0
  IsSite (same kind from to) ss = kind ≡ Punctuation Joint → Continues to ss
  IsSite (loose spacing from to) ss = slice_range a from to ≡ comma ∷ []

  abbrev pub Linked : List Site → Type 0
  Linked [] = Unit {0}
  Linked (s ∷ ss) = IsLexeme (site_kind s) (site_from s) (site_to s) × IsSite s ss × Linked ss

  abbrev site_gap : Site → List ℕ
  site_gap (same kind from to) = gap_of a kind from to
  site_gap (loose spacing from to) = 32 ∷ []

module _ (a : List ℕ) (utf8 : IsUtf8 a) (text : HasText a) (docs : HasDocs a) (spaces : HasNoSpace a) (b : List ℕ) where
  site_parts : (s : Site) (ss : List Site) → IsLexeme a (site_kind s) (site_from s) (site_to s) → IsSite a s ss →
      parts (site_lexemes a s) ≡ (record { text = slice_range a (site_from s) (site_to s); gap = site_gap a s }) ∷ []
  site_parts (same kind from to) ss l i = text kind from to l.0 l.1 l.2
  site_parts (loose spacing from to) ss l i = let part : List ℕ → List Part = λ t. (record { text = t; gap = 32 ∷ [] }) ∷ [] in ap part (encode_ascii comma (omega arith) ∙ sym i)

  abbrev IsPrinted : Site → ℕ → List Site → Type 0
  IsPrinted s q ss = drop q b ≡ slice_range a (site_from s) (site_to s) ++ after (site_gap a s) (parts (sites_lexemes a ss))

  -- the printed text from a site on
  printed_site : (s : Site) (ss : List Site) (q : ℕ) (gap : List ℕ) → Linked a (s ∷ ss) → drop q b ≡ after gap (parts (sites_lexemes a (s ∷ ss))) →
      drop q b ≡ gap ++ (slice_range a (site_from s) (site_to s) ++ after (site_gap a s) (parts (sites_lexemes a ss)))
  printed_site s ss q gap l e = e ∙ ap (after gap) (parts-append (site_lexemes a s) (sites_lexemes a ss) ∙ ap (λ ps. ps ++ parts (sites_lexemes a ss)) (site_parts s ss l.0 l.1))

  -- after a lexeme that a gap follows comes the byte of the gap, or nothing
  blank_after : (p to q : ℕ) (kind : LexemeKind) (gap : List ℕ) (ps : List Part) (c : ℕ) → IsNext a p kind to → q ≤ length b → drop q b ≡ slice_range a p to ++ after gap ps → gap ≡ c ∷ [] →
      (get_or b (q + (to - p)) 0 ≡ c) ⊎ (q + (to - p) ≡ length b)
  blank_after p to q kind gap ps c next inside e g =
      let adv = piece-advances a p kind to next in
      let long = length-between a p to adv.1 in
      let total = whole_length b (slice_range a p to) (after gap ps) q (to - p) long inside e in
      let first = byte_afterward b (slice_range a p to) (after gap ps) q (to - p) long inside e in
      elim (gap_first ps gap c g) [ inl h ↦ inl (first ∙ h) | inr h ↦ inr (omega (arith, ap length h)) ]

  -- such a lexeme is a window
  window_here : (p to q : ℕ) (kind : LexemeKind) (gap : List ℕ) (ps : List Part) → IsNext a p kind to → IsCharBoundary a p → IsSeparator gap → q ≤ length b → drop q b ≡ slice_range a p to ++ after gap ps → Window a b p q (to - p)
  window_here p to q kind gap ps next bound parted inside e =
      let adv = piece-advances a p kind to next in
      let fits = adv.1 in
      let ahead = adv.0 in
      let n = to - p in
      let long = length-between a p to fits in
      let total = whole_length b (slice_range a p to) (after gap ps) q n long inside e in
      let is : p + n ≡ to = omega arith in
      let blank : (c : ℕ) → gap ≡ c ∷ [] → (get_or b (q + n) 0 ≡ c) ⊎ (q + n ≡ length b) = λ c g. blank_after p to q kind gap ps c next inside e g in
      record {
        utf8 = utf8;
        ends = subst (IsCharBoundary a) (sym is) (piece-boundary a p kind to utf8 bound next);
        filled = omega arith;
        fits = omega arith;
        holds = omega arith;
        same = λ x y spots low high. slice_same a utf8 text docs b p to q (after gap ps) (omega arith) fits e x y spots low (omega arith);
        blank = elim parted [
          | inl g ↦ elim (blank 32 g) [ inl h ↦ inl h | inr h ↦ inr (inr h) ]
          | inr g ↦ inr (blank 10 g)
        ];
      }

  -- a lexeme and the window after it are a window
  window_more : (p to q k : ℕ) (kind : LexemeKind) (rest : List ℕ) → IsNext a p kind to → q ≤ length b → drop q b ≡ slice_range a p to ++ rest → Window a b to (q + (to - p)) k → Window a b p q (to - p + k)
  window_more p to q k kind rest next inside e w =
      let adv = piece-advances a p kind to next in
      let fits = adv.1 in
      let ahead = adv.0 in
      let n = to - p in
      let filled = w.filled in
      let is : to + k ≡ p + (n + k) = omega arith in
      let there : q + n + k ≡ q + (n + k) = omega arith in
      record {
        utf8 = utf8;
        ends = subst (IsCharBoundary a) is w.ends;
        filled = omega arith;
        fits = omega (arith, w.fits);
        holds = omega (arith, w.holds);
        same = λ x y spots low high. elim (cases_lt x to) [
          | inl l ↦ slice_same a utf8 text docs b p to q rest (omega arith) fits e x y spots low l
          | inr l ↦ w.same x y (omega arith) l (omega arith)
        ];
        blank = rw (← there) w.blank;
      }

  -- the facts about a site
  abbrev ShownSite : Site → ℕ → Type 0
  ShownSite (same kind from to) q = Shown a b from q kind to
  ShownSite (loose spacing from to) q = Window a b from q (to - from)

  record Wide (p q : ℕ) : Type 0 where
    size : ℕ
    window : Window a b p q size

  wide : (s : Site) (q : ℕ) → ShownSite s q → Wide (site_from s) q
  wide (same kind from to) q s = record { size = s.size; window = s.window }
  wide (loose spacing from to) q s = record { size = to - from; window = s }

  show_alone : (kind : LexemeKind) (p to q : ℕ) (ss : List Site) → (kind ≡ Punctuation Joint → ⊥) → IsLexeme a kind p to → q ≤ length b → IsPrinted (same kind p to) q ss → Shown a b p q kind to
  show_alone kind p to q ss alone l inside e =
      let ps = parts (sites_lexemes a ss) in
      let ahead = (piece-advances a p kind to l.1).0 in
      record {
        size = to - p;
        window = window_here p to q kind (gap_of a kind p to) ps l.1 l.0 (separates a kind p to alone) inside e;
        at = (λ f. absurd (alone f), λ f. omega arith);
        line = λ f g.
            let two = docs p to l.0 (subst (λ x. IsNext a p x to) g l.1) in
            let fits = (piece-advances a p kind to l.1).1 in
            let long = length-between a p to fits in
            let second : get_or (slice_range a p to) 1 0 ≡ 47 = get_or-between a p to 1 0 (omega arith) ∙ f in
            let gap : gap_of a kind p to ≡ 10 ∷ [] = ap (λ x. gap_of a x p to) g ∙ ap (λ t. cond t (10 ∷ []) (32 ∷ [])) (second_slash (slice_range a p to) second) in
            blank_after p to q kind (gap_of a kind p to) ps 10 l.1 inside e gap;
      }

  show_joint : (kind : LexemeKind) (p to q : ℕ) (rest : List ℕ) → kind ≡ Punctuation Joint → IsNext a p kind to → q ≤ length b → drop q b ≡ slice_range a p to ++ rest → Wide to (q + (to - p)) → Shown a b p q kind to
  show_joint kind p to q rest joint next inside e w =
      let ahead = (piece-advances a p kind to next).0 in
      let filled = w.window.filled in
      record {
        size = to - p + w.size;
        window = window_more p to q w.size kind rest next inside e w.window;
        at = (λ f. omega arith, λ f. absurd (f joint));
        line = λ f g. absurd (let h : Doc ≡ Punctuation Joint = sym g ∙ joint in cc);
      }

  show : (s : Site) (ss : List Site) (q : ℕ) → Linked a (s ∷ ss) → q ≤ length b → IsPrinted s q ss → ShownSite s q
  show (loose spacing from to) ss q l inside e = window_here from to q (Punctuation spacing) (32 ∷ []) (parts (sites_lexemes a ss)) l.0.1 l.0.0 (inl refl) inside e
  show (same kind p to) [] q l inside e = elim (joint_or_not kind) [
    | inl j ↦ absurd (l.1 j)
    | inr j ↦ show_alone kind p to q [] j l.0 inside e
  ]
  show (same kind p to) (t ∷ ts) q l inside e = elim (joint_or_not kind) [
    | inr j ↦ show_alone kind p to q (t ∷ ts) j l.0 inside e
    | inl j ↦
        let next = l.0.1 in
        let adv = piece-advances a p kind to next in
        let long = length-between a p to adv.1 in
        let tail = after (site_gap a (same kind p to)) (parts (sites_lexemes a (t ∷ ts))) in
        let total = whole_length b (slice_range a p to) tail q (to - p) long inside e in
        let left : drop (q + (to - p)) b ≡ after [] (parts (sites_lexemes a (t ∷ ts))) = drop_on b (slice_range a p to) tail q (to - p) long inside e ∙ ap (λ x. after (gap_of a x p to) (parts (sites_lexemes a (t ∷ ts)))) j in
        let shown = show t ts (q + (to - p)) l.2 (omega (arith, total)) (printed_site t ts (q + (to - p)) [] l.2 left) in
        show_joint kind p to q tail j next inside e (subst (λ x. Wide x (q + (to - p))) (l.1 j) (wide t (q + (to - p)) shown))
  ]

  -- the pieces of the printed text from a spot on
  pub record Remade (q : ℕ) (ss : List Site) : Type 0 where
    pub news : List Piece
    pub filled : Pieces b q news (length b)
    pub same_lexemes : map bare_lexeme (seen b news) ≡ map bare_lexeme (sites_lexemes a ss)

  record Begins (q : ℕ) (ss : List Site) : Type 0 where
    remade : Remade q ss
    no_space : is_space (character b q) ≡ false

  -- one more piece in front
  one_more : (s : Site) (ss : List Site) (kind : LexemeKind) (q end : ℕ) → IsNext b q kind end → map bare_lexeme (lexeme_of b kind (record { from = q; to = end })) ≡ map bare_lexeme (site_lexemes a s) → Remade end ss → Remade q (s ∷ ss)
  one_more s ss kind q end next e r =
      let span : Span = record { from = q; to = end } in
      record {
        news = (record { kind = kind; span = span }) ∷ r.news;
        filled = (refl, next, r.filled);
        same_lexemes = map-append bare_lexeme (lexeme_of b kind span) (seen b r.news) ∙ ap (λ ls. ls ++ map bare_lexeme (seen b r.news)) e ∙ ap (λ ls. map bare_lexeme (site_lexemes a s) ++ ls) r.same_lexemes
            ∙ sym (map-append bare_lexeme (site_lexemes a s) (sites_lexemes a ss));
      }

  -- if there is a `'` directly before a spot of the printed text, there is one directly before the
  -- site in the source
  abbrev pub IsAfter : ℕ → List Site → Type 0
  IsAfter q [] = Unit {0}
  IsAfter q (s ∷ ss) = follows_apostrophe b q ≡ true → follows_apostrophe a (site_from s) ≡ true

  -- there is none before the text
  pub first_after : (ss : List Site) → IsAfter 0 ss
  first_after [] = tt
  first_after (s ∷ ss) = λ found. absurd (false≢true (sym (follows-none b) ∙ found))

  site_step : (s : Site) (ss : List Site) (q : ℕ) → Linked a (s ∷ ss) → q ≤ length b → IsAfter q (s ∷ ss) → IsPrinted s q ss → Remade (q + (site_to s - site_from s)) ss → Begins q (s ∷ ss)
  site_step (same kind p to) ss q l inside before e r =
      let s = show (same kind p to) ss q l inside e in
      let next = l.0.1 in
      let bound = l.0.0 in
      let no_gap = l.0.2 in
      let w = s.window in
      let adv = piece-advances a p kind to next in
      let ahead = adv.0 in
      let positive = w.filled in
      let is : to + q - p ≡ q + (to - p) = omega arith in
      let there : IsNext b q kind (q + (to - p)) = subst (IsNext b q kind) is (next_same a b p q s.size w bound before kind to next no_gap s.at s.line) in
      let le : to ≤ p + s.size = elim (joint_or_not kind) [ inl j ↦ omega (arith, s.at.0 j) | inr j ↦ omega (arith, s.at.1 j) ] in
      let old : Span = record { from = p; to = to } in
      let new : Span = record { from = q; to = q + (to - p) } in
      let same_one = same_lexeme a b kind old new (same_slice a b p q s.size w p q to (q + (to - p)) (omega arith) (omega arith) (omega arith) le (omega arith)) (w.same p q (omega arith) (omega arith) (omega arith)) in
      record {
        remade = one_more (same kind p to) ss kind q (q + (to - p)) there same_one r;
        no_space = ap is_space (same_character a b p q s.size w p q (omega arith) (omega arith) (omega arith) bound) ∙ spaces kind p to bound next no_gap;
      }
  site_step (loose spacing p to) ss q l inside before e r =
      let w = show (loose spacing p to) ss q l inside e in
      let adv = piece-advances a p (Punctuation spacing) to l.0.1 in
      let fits = adv.1 in
      let ahead = adv.0 in
      let long = length-between a p to fits in
      let one : to - p ≡ 1 = sym long ∙ ap length l.1 in
      let byte : get_or b q 0 ≡ 44 =
      let z : q + 0 ≡ q = omega arith in
      ap (λ i. get_or b i 0) (sym z) ∙ at_reads 0 b (slice_range a p to) q (after (32 ∷ []) (parts (sites_lexemes a ss))) e 0 (omega arith) ∙ ap (λ (xs : List ℕ). get_or xs 0 0) l.1 in
      let spot : q + (to - p) ≡ q + 1 = omega arith in
      let blank : (get_or b (q + 1) 0 ≡ 32) ⊎ ((get_or b (q + 1) 0 ≡ 10) ⊎ (q + 1 ≡ length b)) = rw (← spot) w.blank in
      let there : IsNext b q (Punctuation Alone) (q + (to - p)) = subst (IsNext b q (Punctuation Alone)) (sym spot) (comma_next b q byte blank) in
      record {
        remade = one_more (loose spacing p to) ss (Punctuation Alone) q (q + (to - p)) there (rw byte refl) r;
        no_space = comma_space b q byte;
      }

  -- a gap in front
  with_gap : (c q : ℕ) (ss : List Site) → IsBlankByte c → get_or b q 0 ≡ c → Begins (q + 1) ss → Remade q ss
  with_gap c q ss blank e s = record {
    news = (record { kind = Gap; span = record { from = q; to = q + 1 } }) ∷ s.remade.news;
    filled = (refl, gap_next b q (subst IsBlankByte (sym e) blank) s.no_space, s.remade.filled);
    same_lexemes = s.remade.same_lexemes;
  }

  at_gap : (c q : ℕ) (gap more : List ℕ) → gap ≡ c ∷ [] → q ≤ length b → drop q b ≡ gap ++ more → (get_or b q 0 ≡ c) × (drop (q + 1) b ≡ more) × (q + 1 ≤ length b)
  at_gap c q gap more g inside e =
      let f : drop q b ≡ (c ∷ []) ++ more = e ∙ ap (λ xs. xs ++ more) g in
      let z : q + 0 ≡ q = omega arith in
      (sym (ap (λ i. get_or b i 0) z) ∙ sym (get_or-drop q b 0 0) ∙ ap (λ (xs : List ℕ). get_or xs 0 0) f, drop_on b (c ∷ []) more q 1 refl inside f, omega (arith, whole_length b (c ∷ []) more q 1 refl inside f))

  joint_gap : (s : Site) → (site_gap a s ≡ []) ⊎ IsSeparator (site_gap a s)
  joint_gap (same kind from to) = elim (joint_or_not kind) [ inl j ↦ inl (ap (λ x. gap_of a x from to) j) | inr j ↦ inr (separates a kind from to j) ]
  joint_gap (loose spacing from to) = inr (inl refl)

  -- after a site with no gap the next one is directly after it in both texts
  after_site : (s : Site) (ss : List Site) (q : ℕ) → Linked a (s ∷ ss) → IsPrinted s q ss → site_gap a s ≡ [] → IsAfter (q + (site_to s - site_from s)) ss
  after_site s [] q l e none = tt
  after_site (loose spacing p to) (t ∷ ts) q l e none = absurd (let f : [] ≡ 32 ∷ [] = sym none in cc)
  after_site (same kind p to) (t ∷ ts) q l e none = λ found.
      let joint = joint_from a kind p to none in
      let adv = piece-advances a p kind to l.0.1 in
      let tail = after (site_gap a (same kind p to)) (parts (sites_lexemes a (t ∷ ts))) in
      let spots : to - 1 + q ≡ q + (to - p) - 1 + p = omega (arith, adv.0) in
      let byte : get_or b (q + (to - p) - 1) 0 ≡ get_or a (to - 1) 0 = slice_same a utf8 text docs b p to q tail (omega (arith, adv.0)) adv.1 e (to - 1) (q + (to - p) - 1) spots (omega (arith, adv.0)) (omega (arith, adv.0)) in
      ap (follows_apostrophe a) (l.1 joint) ∙ follows-same a b to (q + (to - p)) (omega (arith, adv.0)) byte found

  pub remake : (ss : List Site) (q : ℕ) (gap : List ℕ) → Linked a ss → (gap ≡ []) ⊎ IsSeparator gap → (gap ≡ [] → IsAfter q ss) → q ≤ length b → drop q b ≡ after gap (parts (sites_lexemes a ss)) → Remade q ss
  remake [] q gap l parted after_mark inside e = record { news = []; filled = omega (arith, ap length e, length-drop q b); same_lexemes = refl }
  remake (s ∷ ss) q gap l parted after_mark inside e =
      let from = site_from s in
      let to = site_to s in
      let fits = (piece-advances a from (site_kind s) to l.0.1).1 in
      let long = length-between a from to fits in
      let tail = after (site_gap a s) (parts (sites_lexemes a ss)) in
      let whole = printed_site s ss q gap l e in
      let go : (i : ℕ) → i ≤ length b → IsAfter i (s ∷ ss) → drop i b ≡ slice_range a from to ++ tail → Begins i (s ∷ ss) = λ i le before f.
      site_step s ss i l le before f
      (remake ss (i + (to - from)) (site_gap a s) l.2 (joint_gap s) (after_site s ss i l f) (omega (arith, whole_length b (slice_range a from to) tail i (to - from) long le f)) (drop_on b (slice_range a from to) tail i (to - from) long le f)) in
      elim parted [
        | inl none ↦ (go q inside (after_mark none) (whole ∙ ap (λ xs. xs ++ (slice_range a from to ++ tail)) none)).remade
        | inr some ↦ elim some [
          | inl s ↦ let f = at_gap 32 q gap (slice_range a from to ++ tail) s inside whole in with_gap 32 q _ (inl refl) f.0 (go (q + 1) f.2 (λ found. absurd (false≢true (sym (follows-other b q 32 f.0 refl) ∙ found))) f.1)
          | inr s ↦ let f = at_gap 10 q gap (slice_range a from to ++ tail) s inside whole in with_gap 10 q _ (inr refl) f.0 (go (q + 1) f.2 (λ found. absurd (false≢true (sym (follows-other b q 10 f.0 refl) ∙ found))) f.1)
        ]
      ]
