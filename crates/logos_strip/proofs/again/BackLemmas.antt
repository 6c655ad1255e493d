-- The printed text of a stripped source spells the remaining tokens again.
use Rattle.std.proofs.Common.{◌≡◌, ◌≢◌, ℕ, ◌⊎◌, inl, inr, Bool, true, List, [], ◌∷◌, ◌++◌, map, length, drop, slice_index, slice_range, IsUtf8, encode_utf8, refl, sym, ◌∙◌, ap, subst, arith}
use Rattle.std.proofs.lemmas.Bool.{false≢true}
use Rattle.std.proofs.lemmas.Str.{IsCharBoundary-start, encode_ascii}
use Rattle.std.specs.Str.{IsCharBoundary}
use Rattle.logos_lexeme.specs.declared.lexeme.Span.{Span}
use Rattle.logos_lexeme.specs.declared.lexeme.Spacing.{Spacing}
use Rattle.logos_lexeme.specs.declared.lexeme.Spacing.TheVariants.{Alone, Joint}
use Rattle.logos_lexeme.specs.declared.lexeme.LexemeKind.{LexemeKind}
use Rattle.logos_lexeme.specs.declared.lexeme.LexemeKind.TheVariants.{Gap, Identifier, Literal, Doc, Punctuation, Opening, Closing}
use Rattle.logos_lexeme.specs.Lexemes.{IsNext}
use Rattle.logos_token.specs.Tokens.{punctuation, TokenList}
use Rattle.logos_token.specs.Spelling.{Piece, Pieces, Lexeme, leaf, lexeme_of, seen, lexemes, Spells}
use Rattle.logos_token.specs.Printing.{Part, printed}
use Rattle.logos_token.specs.PrintedAgain.{SpellsAgain}
use Rattle.logos_token.proofs.reading.PieceLemmas.{piece-boundary}
use Rattle.logos_token.proofs.printing.PrintParts.{parts, after, bare_lexeme, printed-lexemes, rebuilt-whole}
use Rattle.logos_token.proofs.printing.PrintPieces.{Follows, Joined, HasText}
use Rattle.logos_token.proofs.printing.PrintAgain.{gap_or_not}
use Rattle.logos_token.proofs.printing.PrintSources.{has_text, has_joints, has_docs, has_no_space}
use Rattle.logos_enum.specs.Marks.{comma}
use Rattle.logos_strip.specs.declared.spots.Scope.TheVariants.{Enum}
use Rattle.logos_strip.specs.declared.spots.TokenSpot.TheVariants.{Open}
use Rattle.logos_strip.specs.Stripping.{stripped}
use Rattle.logos_strip.proofs.again.SiteLemmas.{Site, same, loose, Continues, sites_lexemes, Linked, first_after, remake}
use Rattle.logos_strip.proofs.again.ThinningLemmas.{is_joint, Thins, ended, drops, keeps, loosens, first_stays, thins-run}

none-left : {stays : Bool} {ls ms : List Lexeme} → Thins stays ls ms → ls ≡ [] → ms ≡ []
none-left ended e = refl
none-left (drops stays lexeme t) e = absurd (cc)
none-left (keeps stays lexeme f t) e = absurd (cc)
none-left (loosens stays spacing span t) e = absurd (cc)

abbrev first_text : List Part → List ℕ
first_text [] = []
first_text (part ∷ rest) = part.text

module _ (a : List ℕ) (utf8 : IsUtf8 a) (text : HasText a) where
  -- the lexeme of a piece that is not a gap
  lexeme_there : (kind : LexemeKind) (span : Span) → kind ≢ Gap → (l : Lexeme) × (lexeme_of a kind span ≡ l ∷ [])
  lexeme_there Gap span f = absurd (f refl)
  lexeme_there Identifier span f = (_, refl)
  lexeme_there Literal span f = (_, refl)
  lexeme_there Doc span f = (_, refl)
  lexeme_there (Punctuation spacing) span f = (_, refl)
  lexeme_there (Opening delimiter) span f = (_, refl)
  lexeme_there (Closing delimiter) span f = (_, refl)

  joint_there : (kind : LexemeKind) (span : Span) (l : Lexeme) → kind ≡ Punctuation Joint → lexeme_of a kind span ≡ l ∷ [] → is_joint l ≡ true
  joint_there kind span l joint e =
      let f : leaf (punctuation (slice_index a span.from) Joint span) ∷ [] ≡ l ∷ [] = sym (ap (λ k. lexeme_of a k span) joint) ∙ e in
      let g : leaf (punctuation (slice_index a span.from) Joint span) ≡ l = cc in
      sym (ap is_joint g)

  -- a comma's piece
  record IsComma (kind : LexemeKind) (spacing : Spacing) (span other : Span) : Type 0 where
    is_kind : kind ≡ Punctuation spacing
    is_byte : slice_index a span.from ≡ comma
    is_span : span ≡ other

  comma_there : (kind : LexemeKind) (spacing : Spacing) (span other : Span) → lexeme_of a kind span ≡ leaf (punctuation comma spacing other) ∷ [] → IsComma kind spacing span other
  comma_there Gap spacing span other e = absurd (cc)
  comma_there Identifier spacing span other e = absurd (cc)
  comma_there Literal spacing span other e = absurd (cc)
  comma_there Doc spacing span other e = absurd (cc)
  comma_there (Punctuation s) spacing span other e =
      let f : s ≡ spacing = cc in
      record { is_kind = ap Punctuation f; is_byte = cc; is_span = cc }
  comma_there (Opening d) spacing span other e = absurd (cc)
  comma_there (Closing d) spacing span other e = absurd (cc)

  comma_range : (spacing : Spacing) (from to : ℕ) → IsCharBoundary a from → IsNext a from (Punctuation spacing) to → slice_index a from ≡ comma → slice_range a from to ≡ comma ∷ []
  comma_range spacing from to bound next byte =
      let t = text (Punctuation spacing) from to bound next (λ e. absurd (cc)) in
      let shown : encode_utf8 (slice_index a from) ≡ slice_range a from to = ap first_text t in
      sym shown ∙ ap encode_utf8 byte ∙ encode_ascii comma (omega arith)

  -- sites of the rest of pieces
  record Seated (from : ℕ) (stays : Bool) (pieces : List Piece) (ms : List Lexeme) : Type 0 where
    sites : List Site
    linked : Linked a sites
    lexemes_are : sites_lexemes a sites ≡ ms
    first : stays ≡ true → Follows pieces → Continues from sites

  -- a piece, and those after it
  record Occurs (from : ℕ) (piece : Piece) (rest : List Piece) : Type 0 where
    at : piece.span.from ≡ from
    bound : IsCharBoundary a from
    next : IsNext a from piece.kind piece.span.to
    no_gap : piece.kind ≢ Gap
    follows : piece.kind ≡ Punctuation Joint → Follows rest

  seat_keep : (from : ℕ) (piece : Piece) (rest : List Piece) (l : Lexeme) (ms : List Lexeme) → Occurs from piece rest → lexeme_of a piece.kind piece.span ≡ l ∷ [] → (stays : Bool) → (is_joint l ≡ true → stays ≡ true) →
      Seated piece.span.to stays rest ms → Seated from true (piece ∷ rest) (l ∷ ms)
  seat_keep from piece rest l ms s one stays joint r =
      let to = piece.span.to in
      let span : piece.span ≡ (record { from = from; to = to }) = ap (λ f. let x : Span = record { from = f; to = to } in x) s.at in
      let here : lexeme_of a piece.kind (record { from = from; to = to }) ≡ l ∷ [] = ap (lexeme_of a piece.kind) (sym span) ∙ one in
      record {
        sites = same piece.kind from to ∷ r.sites;
        linked = ((s.bound, s.next, s.no_gap), λ k. r.first (joint (joint_there piece.kind piece.span l k one)) (s.follows k), r.linked);
        lexemes_are = ap (λ ls. ls ++ sites_lexemes a r.sites) here ∙ ap (λ ls. l ∷ ls) r.lexemes_are;
        first = λ e f. refl;
      }

  seat_loose : (from : ℕ) (piece : Piece) (rest : List Piece) (spacing : Spacing) (span : Span) (ms : List Lexeme) → Occurs from piece rest → lexeme_of a piece.kind piece.span ≡ leaf (punctuation comma spacing span) ∷ [] → (stays : Bool) →
      Seated piece.span.to stays rest ms → Seated from true (piece ∷ rest) (leaf (punctuation comma Alone span) ∷ ms)
  seat_loose from piece rest spacing span ms s one stays r =
      let to = piece.span.to in
      let there : piece.span ≡ (record { from = from; to = to }) = ap (λ f. let x : Span = record { from = f; to = to } in x) s.at in
      let c = comma_there piece.kind spacing piece.span span one in
      let next : IsNext a from (Punctuation spacing) to = subst (λ k. IsNext a from k to) c.is_kind s.next in
      let byte : slice_index a from ≡ comma = ap (slice_index a) (sym s.at) ∙ c.is_byte in
      let is : (record { from = from; to = to }) ≡ span = sym there ∙ c.is_span in
      record {
        sites = loose spacing from to ∷ r.sites;
        linked = ((s.bound, next, λ e. absurd (cc)), comma_range spacing from to s.bound next byte, r.linked);
        lexemes_are = ap (λ x. leaf (punctuation comma Alone x) ∷ sites_lexemes a r.sites) is ∙ ap (λ ls. leaf (punctuation comma Alone span) ∷ ls) r.lexemes_are;
        first = λ e f. refl;
      }

  seat_piece : (from : ℕ) (piece : Piece) (rest : List Piece) (l : Lexeme) → Occurs from piece rest → lexeme_of a piece.kind piece.span ≡ l ∷ [] →
      ((stays : Bool) (ls ms : List Lexeme) → Thins stays ls ms → ls ≡ seen a rest → Seated piece.span.to stays rest ms) → {stays : Bool} {ls ms : List Lexeme} → Thins stays ls ms → ls ≡ l ∷ seen a rest → Seated from stays (piece ∷ rest) ms
  seat_piece from piece rest l s one ih ended e = absurd (cc)
  seat_piece from piece rest l s one ih (drops stays lexeme t) e =
      let r = ih stays _ _ t (cc) in
      record { sites = r.sites; linked = r.linked; lexemes_are = r.lexemes_are; first = λ f. absurd (false≢true f) }
  seat_piece from piece rest l s one ih (keeps stays lexeme joint t) e =
      let is : l ≡ lexeme = cc in
      seat_keep from piece rest lexeme _ s (one ∙ ap (λ x. x ∷ []) is) stays joint (ih stays _ _ t (cc))
  seat_piece from piece rest l s one ih (loosens stays spacing span t) e =
      let is : l ≡ leaf (punctuation comma spacing span) = cc in
      seat_loose from piece rest spacing span _ s (one ∙ ap (λ x. x ∷ []) is) stays (ih stays _ _ t (cc))

  seat : (pieces : List Piece) (from end : ℕ) → Pieces a from pieces end → Joined pieces → IsCharBoundary a from → (stays : Bool) (ls ms : List Lexeme) → Thins stays ls ms → ls ≡ seen a pieces → Seated from stays pieces ms
  seat [] from end filled joined bound stays ls ms t e = record { sites = []; linked = tt; lexemes_are = sym (none-left t e); first = λ f g. absurd g }
  seat (piece ∷ rest) from end filled joined bound stays ls ms t e = elim (gap_or_not piece.kind) [
    | inl g ↦
        let skipped : seen a (piece ∷ rest) ≡ seen a rest = ap (λ k. lexeme_of a k piece.span ++ seen a rest) g in
        let r = seat rest piece.span.to end filled.2 joined.1 (piece-boundary a from piece.kind piece.span.to utf8 bound filled.1) stays ls ms t (e ∙ skipped) in
        record { sites = r.sites; linked = r.linked; lexemes_are = r.lexemes_are; first = λ f h. absurd (h g) }
    | inr g ↦
        let l = lexeme_there piece.kind piece.span g in
        let occurs : Occurs from piece rest = record { at = filled.0; bound = bound; next = filled.1; no_gap = g; follows = joined.0 } in
        seat_piece from piece rest l.0 occurs l.1
        (λ stays ls ms t e. seat rest piece.span.to end filled.2 joined.1 (piece-boundary a from piece.kind piece.span.to utf8 bound filled.1) stays ls ms t e)
        t (e ∙ ap (λ x. x ++ seen a rest) l.1)
  ]

all_joined : (a : List ℕ) → IsUtf8 a → (pieces : List Piece) (from : ℕ) → IsCharBoundary a from → Pieces a from pieces (length a) → Joined pieces
all_joined a utf8 [] from bound filled = tt
all_joined a utf8 (piece ∷ rest) from bound filled = (
  λ e. has_joints a utf8 from piece.span.to rest bound (subst (λ k. IsNext a from k piece.span.to) e filled.1) filled.2,
  all_joined a utf8 rest piece.span.to (piece-boundary a from piece.kind piece.span.to utf8 bound filled.1) filled.2,
)

pub stripped-back : (source : List ℕ) → IsUtf8 source → (tokens : TokenList) → Spells source tokens → SpellsAgain (printed (stripped tokens)) (stripped tokens)
stripped-back source utf8 tokens s =
    let start = IsCharBoundary-start source utf8 in
    let joined = all_joined source utf8 s.pieces 0 start s.filled in
    let text = has_text source utf8 in
    let r = seat source utf8 text s.pieces 0 (length source) s.filled joined start (first_stays Enum Open tokens) (lexemes tokens) (lexemes (stripped tokens)) (thins-run Enum Open tokens) s.nested in
    let b = printed (stripped tokens) in
    let e : drop 0 b ≡ after [] (parts (sites_lexemes source r.sites)) = printed-lexemes (stripped tokens) ∙ ap (λ ls. after [] (parts ls)) (sym r.lexemes_are) in
    let m = remake source utf8 text (has_docs source utf8) (has_no_space source utf8) b r.sites 0 [] r.linked (inl refl) (λ none. first_after source utf8 text (has_docs source utf8) (has_no_space source utf8) b r.sites) (omega arith) e in
    let w = rebuilt-whole (stripped tokens) (seen b m.news) (m.same_lexemes ∙ ap (map bare_lexeme) r.lexemes_are) in
    record { again = w.0; spelled = record { pieces = m.news; filled = m.filled; nested = w.1 }; same = w.2 }
