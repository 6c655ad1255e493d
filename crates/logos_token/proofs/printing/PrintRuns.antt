-- The printed text of a run of a source spells the run again.
use Rattle.std.proofs.Common.{◌≡◌, ℕ, ◌⊎◌, inl, inr, Bool, true, false, List, [], ◌∷◌, ◌++◌, length, IsUtf8, refl, sym, ◌∙◌, ap, subst, append_assoc}
use Rattle.std.proofs.lemmas.Bool.{cases_Bool, true≢false, false≢true}
use Rattle.std.proofs.lemmas.Str.{IsCharBoundary-start}
use Rattle.std.specs.Str.{IsCharBoundary}
use Rattle.logos_lexeme.specs.declared.lexeme.Span.{Span}
use Rattle.logos_lexeme.specs.declared.lexeme.Spacing.TheVariants.{Alone, Joint}
use Rattle.logos_lexeme.specs.declared.lexeme.LexemeKind.{LexemeKind}
use Rattle.logos_lexeme.specs.declared.lexeme.LexemeKind.TheVariants.{Gap, Identifier, Literal, Doc, Punctuation, Opening, Closing}
use Rattle.logos_lexeme.specs.Lexemes.{IsNext}
use Rattle.logos_token.specs.Tokens.{Token, identifier, punctuation, literal, doc, group, TokenList, none, also, append}
use Rattle.logos_token.specs.Spelling.{Piece, Pieces, Lexeme, leaf, opens, closes, lexeme_of, seen, lexemes, Spells}
use Rattle.logos_token.specs.Printing.{printed}
use Rattle.logos_token.specs.PrintedAgain.{SpellsAgain, IsRunOf, here, within, EndsJoint}
use Rattle.logos_token.proofs.reading.PieceLemmas.{piece-boundary}
use Rattle.logos_token.proofs.reading.ReadingLemmas.{lexemes-append}
use Rattle.logos_token.proofs.printing.PrintPieces.{Joined}
use Rattle.logos_token.proofs.printing.PrintAgain.{printed_again}
use Rattle.logos_token.proofs.printing.PrintSources.{has_text, has_joints, has_docs, has_no_space}

-- whether a token is joint punctuation
abbrev joint_token : Token → Bool
joint_token (identifier text span) = false
joint_token (punctuation character Alone span) = false
joint_token (punctuation character Joint span) = true
joint_token (literal text span) = false
joint_token (doc text span) = false
joint_token (group delimiter span inside) = false

abbrev joint_lexeme : Lexeme → Bool
joint_lexeme (leaf token) = joint_token token
joint_lexeme (opens delimiter from) = false
joint_lexeme (closes delimiter to) = false

-- whether the last lexeme is joint punctuation, or the given value if there is no lexeme
abbrev joint_last : Bool → List Lexeme → Bool
joint_last t [] = t
joint_last t (l ∷ ls) = joint_last (joint_lexeme l) ls

joint_last-append : (t : Bool) (front back : List Lexeme) → joint_last t (front ++ back) ≡ joint_last (joint_last t front) back
joint_last-append t [] back = refl
joint_last-append t (l ∷ ls) back = joint_last-append (joint_lexeme l) ls back

abbrev joint_end : Bool → TokenList → Bool
joint_end t none = t
joint_end t (also token rest) = joint_end (joint_token token) rest

joint_last-lexemes : (t : Bool) (run : TokenList) → joint_last t (lexemes run) ≡ joint_end t run
joint_last-lexemes t none = refl
joint_last-lexemes t (also (identifier text span) rest) = joint_last-lexemes false rest
joint_last-lexemes t (also (punctuation character spacing span) rest) = joint_last-lexemes (joint_token (punctuation character spacing span)) rest
joint_last-lexemes t (also (literal text span) rest) = joint_last-lexemes false rest
joint_last-lexemes t (also (doc text span) rest) = joint_last-lexemes false rest
joint_last-lexemes t (also (group delimiter span inside) rest) =
    joint_last-append false (lexemes inside ++ closes delimiter span.to ∷ []) (lexemes rest)
    ∙ ap (λ u. joint_last u (lexemes rest)) (joint_last-append false (lexemes inside) (closes delimiter span.to ∷ []))
    ∙ joint_last-lexemes false rest

ends_joint : (token : Token) (rest : TokenList) → joint_end (joint_token token) rest ≡ true → EndsJoint (also token rest)
ends_joint (identifier text span) none e = absurd (false≢true e)
ends_joint (punctuation character Alone span) none e = absurd (false≢true e)
ends_joint (punctuation character Joint span) none e = record { front = none; character = character; span = span; is = refl }
ends_joint (literal text span) none e = absurd (false≢true e)
ends_joint (doc text span) none e = absurd (false≢true e)
ends_joint (group delimiter span inside) none e = absurd (false≢true e)
ends_joint token (also next rest) e = let r = ends_joint next rest e in record { front = also token r.front; character = r.character; span = r.span; is = ap (also token) r.is }

-- the lexemes of a run that does not end joint do not either
no_joint_last : (run : TokenList) → (EndsJoint run → ⊥) → joint_last false (lexemes run) ≡ false
no_joint_last none other = refl
no_joint_last (also token rest) other = elim (cases_Bool (joint_end (joint_token token) rest)) [
  | inl e ↦ absurd (other (ends_joint token rest e))
  | inr e ↦ joint_last-lexemes false (also token rest) ∙ e
]

-- the position of the lexemes of a run among those of the tokens
record Lies (middle whole : List Lexeme) : Type 0 where
  front : List Lexeme
  back : List Lexeme
  is : whole ≡ front ++ (middle ++ back)

lies : (run tokens : TokenList) → IsRunOf run tokens → Lies (lexemes run) (lexemes tokens)
lies run tokens (here front back e) = record {
  front = lexemes front;
  back = lexemes back;
  is = ap lexemes e ∙ lexemes-append front (append run back) ∙ ap (λ ls. lexemes front ++ ls) (lexemes-append run back);
}
lies run tokens (within front delimiter span inside back e r) =
    let l = lies run inside r in
    let afterward = closes delimiter span.to ∷ lexemes back in
    record {
      front = lexemes front ++ (opens delimiter span.from ∷ l.front);
      back = l.back ++ afterward;
      is = ap lexemes e ∙ lexemes-append front (also (group delimiter span inside) back)
          ∙ ap (λ ls. lexemes front ++ (opens delimiter span.from ∷ ls))
          (append_assoc (lexemes inside) (closes delimiter span.to ∷ []) (lexemes back) ∙ ap (λ ls. ls ++ afterward) l.is ∙ append_assoc l.front (lexemes run ++ l.back) afterward ∙ ap (λ ls. l.front ++ ls) (append_assoc (lexemes run) l.back afterward))
          ∙ sym (append_assoc (lexemes front) (opens delimiter span.from ∷ l.front) (lexemes run ++ (l.back ++ afterward)));
    }

module _ (a : List ℕ) where
  -- a piece has one lexeme or none
  at_most_one : (kind : LexemeKind) (span : Span) → (lexeme_of a kind span ≡ []) ⊎ ((l : Lexeme) × (lexeme_of a kind span ≡ l ∷ []))
  at_most_one Gap span = inl refl
  at_most_one Identifier span = inr (_, refl)
  at_most_one Literal span = inr (_, refl)
  at_most_one Doc span = inr (_, refl)
  at_most_one (Punctuation spacing) span = inr (_, refl)
  at_most_one (Opening delimiter) span = inr (_, refl)
  at_most_one (Closing delimiter) span = inr (_, refl)

  -- pieces part where their lexemes do
  record Parted (pieces : List Piece) (first second : List Lexeme) : Type 0 where
    front : List Piece
    back : List Piece
    is : pieces ≡ front ++ back
    before : seen a front ≡ first
    afterward : seen a back ≡ second

  part : (pieces : List Piece) (first second : List Lexeme) → seen a pieces ≡ first ++ second → Parted pieces first second
  part pieces [] second e = record { front = []; back = pieces; is = refl; before = refl; afterward = e }
  part [] (l ∷ first) second e = absurd (cc)
  part (piece ∷ rest) (l ∷ first) second e = elim (at_most_one piece.kind piece.span) [
    | inl f ↦
        let r = part rest (l ∷ first) second (sym (ap (λ ls. ls ++ seen a rest) f) ∙ e) in
        record { front = piece ∷ r.front; back = r.back; is = ap (λ ps. piece ∷ ps) r.is; before = ap (λ ls. ls ++ seen a r.front) f ∙ r.before; afterward = r.afterward }
    | inr f ↦
        let both : f.0 ∷ seen a rest ≡ l ∷ (first ++ second) = sym (ap (λ ls. ls ++ seen a rest) f.1) ∙ e in
        let same : f.0 ≡ l = cc in
        let others : seen a rest ≡ first ++ second = cc in
        let r = part rest first second others in
        record { front = piece ∷ r.front; back = r.back; is = ap (λ ps. piece ∷ ps) r.is; before = ap (λ ls. ls ++ seen a r.front) f.1 ∙ ap (λ x. x ∷ seen a r.front) same ∙ ap (λ ls. l ∷ ls) r.before; afterward = r.afterward }
  ]

  -- the end of the first of two parts of the pieces
  record Divided (from : ℕ) (front back : List Piece) (to : ℕ) : Type 0 where
    at : ℕ
    first : Pieces a from front at
    second : Pieces a at back to
    bound : IsCharBoundary a at

  divide : IsUtf8 a → (front back : List Piece) (from to : ℕ) → IsCharBoundary a from → Pieces a from (front ++ back) to → Divided from front back to
  divide utf8 [] back from to bound filled = record { at = from; first = refl; second = filled; bound = bound }
  divide utf8 (piece ∷ front) back from to bound filled =
      let d = divide utf8 front back piece.span.to to (piece-boundary a from piece.kind piece.span.to utf8 bound filled.1) filled.2 in
      record { at = d.at; first = (filled.0, filled.1, d.first); second = d.second; bound = d.bound }

  joined : IsUtf8 a → (pieces : List Piece) (from : ℕ) → IsCharBoundary a from → Pieces a from pieces (length a) → Joined pieces
  joined utf8 [] from bound filled = tt
  joined utf8 (piece ∷ rest) from bound filled = (
    λ e. has_joints a utf8 from piece.span.to rest bound (subst (λ k. IsNext a from k piece.span.to) e filled.1) filled.2,
    joined utf8 rest piece.span.to (piece-boundary a from piece.kind piece.span.to utf8 bound filled.1) filled.2,
  )

  joined_front : (t : Bool) (front back : List Piece) → Joined (front ++ back) → joint_last t (seen a front) ≡ false → Joined front
  joined_front t [] back j e = tt
  joined_front t (piece ∷ []) back j e = (λ f. absurd (true≢false (sym (ap (λ k. joint_last t (lexeme_of a k piece.span ++ [])) f) ∙ e)), tt)
  joined_front t (piece ∷ (next ∷ rest)) back j e = (j.0, joined_front (joint_last t (lexeme_of a piece.kind piece.span)) (next ∷ rest) back j.1 (sym (joint_last-append t (lexeme_of a piece.kind piece.span) (seen a (next ∷ rest))) ∙ e))

-- the printed text of a run of a source that does not end joint spells the run again
pub prints_run_again : (bytes : List ℕ) → IsUtf8 bytes → (tokens : TokenList) → Spells bytes tokens → (run : TokenList) → IsRunOf run tokens → (EndsJoint run → ⊥) → SpellsAgain (printed run) run
prints_run_again bytes utf8 tokens s run is other =
    let l = lies run tokens is in
    let first = part bytes s.pieces l.front (lexemes run ++ l.back) (sym s.nested ∙ l.is) in
    let second = part bytes first.back (lexemes run) l.back first.afterward in
    let start = IsCharBoundary-start bytes utf8 in
    let outer = divide bytes utf8 first.front first.back 0 (length bytes) start (subst (λ ps. Pieces bytes 0 ps (length bytes)) first.is s.filled) in
    let rest : Pieces bytes outer.at (second.front ++ second.back) (length bytes) = subst (λ ps. Pieces bytes outer.at ps (length bytes)) second.is outer.second in
    let inner = divide bytes utf8 second.front second.back outer.at (length bytes) outer.bound rest in
    let all = joined bytes utf8 (second.front ++ second.back) outer.at outer.bound rest in
    let last : joint_last false (seen bytes second.front) ≡ false = ap (joint_last false) second.before ∙ no_joint_last run other in
    printed_again bytes utf8 (has_text bytes utf8) (has_docs bytes utf8) (has_no_space bytes utf8) run second.front outer.at inner.at outer.bound inner.first
    (joined_front bytes false second.front second.back all last) (sym second.before)

-- the printed text of all tokens of a source spells them again
pub prints_again : (bytes : List ℕ) → IsUtf8 bytes → (tokens : TokenList) → Spells bytes tokens → SpellsAgain (printed tokens) tokens
prints_again bytes utf8 tokens s =
    let start = IsCharBoundary-start bytes utf8 in
    printed_again bytes utf8 (has_text bytes utf8) (has_docs bytes utf8) (has_no_space bytes utf8) tokens s.pieces 0 (length bytes) start s.filled (joined bytes utf8 s.pieces 0 start s.filled) s.nested
