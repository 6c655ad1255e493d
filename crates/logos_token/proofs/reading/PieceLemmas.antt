-- Pieces of a source, one after another.
use Rattle.std.proofs.Common.{◌≡◌, ℕ, ◌<◌, ◌≤◌, List, [], ◌∷◌, ◌++◌, length, arith, sym, ◌∙◌, subst, ap, refl, IsUtf8, append_assoc}
use Rattle.std.proofs.lemmas.List.{append-nil}
use Rattle.std.specs.Str.{IsCharBoundary}
use Rattle.logos_lexeme.specs.declared.lexeme.Span.{Span}
use Rattle.logos_lexeme.specs.declared.lexeme.LexemeKind.{LexemeKind}
use Rattle.logos_lexeme.specs.declared.lexeme.LexicalKind.{LexicalKind}
use Rattle.logos_lexeme.specs.Lexemes.{IsNext, IsStuck}
use Rattle.logos_token.specs.Spelling.{Piece, Pieces, lexeme_of, seen}
use Rattle.logos_lexeme.proofs.LexemeLaws.{next_advances, next_boundary, next_one, stuck_excludes}

-- the laws of pieces, with their arguments
pub piece-advances : (bytes : List ℕ) (from : ℕ) (kind : LexemeKind) (to : ℕ) → IsNext bytes from kind to → (from < to) × (to ≤ length bytes)
piece-advances bytes from kind to n = next_advances n

pub piece-boundary : (bytes : List ℕ) (from : ℕ) (kind : LexemeKind) (to : ℕ) → IsUtf8 bytes → IsCharBoundary bytes from → IsNext bytes from kind to → IsCharBoundary bytes to
piece-boundary bytes from kind to utf8 boundary n = next_boundary utf8 boundary n

pub piece-one : (bytes : List ℕ) (from : ℕ) (kind kind' : LexemeKind) (to to' : ℕ) → IsNext bytes from kind to → IsNext bytes from kind' to' → (kind ≡ kind') × (to ≡ to')
piece-one bytes from kind kind' to to' n n' = next_one n n'

pub no-piece : (bytes : List ℕ) (from : ℕ) (why : LexicalKind) (span : Span) (kind : LexemeKind) (to : ℕ) → IsStuck bytes from why span → IsNext bytes from kind to → ⊥
no-piece bytes from why span kind to s n = stuck_excludes s n

pub Pieces-push : (bytes : List ℕ) (start : ℕ) (pieces : List Piece) (from : ℕ) (kind : LexemeKind) (span : Span) → Pieces bytes start pieces from → span.from ≡ from → IsNext bytes from kind span.to →
    Pieces bytes start (pieces ++ (record { kind = kind; span = span }) ∷ []) span.to
Pieces-push bytes start [] from kind span e begins n = (begins ∙ sym e, rw e n, refl)
Pieces-push bytes start (piece ∷ rest) from kind span s begins n = (s.0, s.1, Pieces-push bytes piece.span.to rest from kind span s.2 begins n)

pub seen-append : (bytes : List ℕ) (front back : List Piece) → seen bytes (front ++ back) ≡ seen bytes front ++ seen bytes back
seen-append bytes [] back = refl
seen-append bytes (piece ∷ rest) back =
    ap (λ ls. lexeme_of bytes piece.kind piece.span ++ ls) (seen-append bytes rest back) ∙ sym (append_assoc (lexeme_of bytes piece.kind piece.span) (seen bytes rest) (seen bytes back))

-- pieces up to an offset are the front of the pieces of the whole source
pub record IsFrontOf (bytes : List ℕ) (front : List Piece) (at : ℕ) (whole : List Piece) : Type 0 where
  pub rest : List Piece
  pub is : whole ≡ front ++ rest
  pub filled : Pieces bytes at rest (length bytes)

same-piece : (a b : Piece) → a.kind ≡ b.kind → a.span.from ≡ b.span.from → a.span.to ≡ b.span.to → a ≡ b
same-piece a b kind from to =
    let P : LexemeKind → ℕ → ℕ → Piece = λ k f t. record { kind = k; span = record { from = f; to = t } } in
    ap (λ k. P k a.span.from a.span.to) kind ∙ ap (λ f. P b.kind f a.span.to) from ∙ ap (λ t. P b.kind b.span.from t) to

pub pieces-front : (bytes : List ℕ) (start : ℕ) (front : List Piece) (at : ℕ) (whole : List Piece) → Pieces bytes start front at → Pieces bytes start whole (length bytes) → IsFrontOf bytes front at whole
pieces-front bytes start [] at whole e w = record { rest = whole; is = refl; filled = rw e at w }
pieces-front bytes start (piece ∷ front) at [] f e = absurd (let a = piece-advances bytes start piece.kind piece.span.to f.1 in omega (arith, a.0, a.1))
pieces-front bytes start (piece ∷ front) at (other ∷ whole) f w =
    let one = piece-one bytes start piece.kind other.kind piece.span.to other.span.to f.1 w.1 in
    let inner = pieces-front bytes piece.span.to front at whole f.2 (let P : ℕ → Type 0 = λ k. Pieces bytes k whole (length bytes) in subst P (sym one.1) w.2) in
    let same : other ≡ piece = same-piece other piece (sym one.0) (w.0 ∙ sym f.0) (sym one.1) in
    record { rest = inner.rest; is = ap (λ p. p ∷ whole) same ∙ ap (λ ps. piece ∷ ps) inner.is; filled = inner.filled }

-- after the end of the source there is no piece
pub pieces-end : (bytes : List ℕ) (rest : List Piece) (to : ℕ) → Pieces bytes (length bytes) rest to → rest ≡ []
pieces-end bytes [] to f = refl
pieces-end bytes (piece ∷ rest) to f = absurd (let a = piece-advances bytes (length bytes) piece.kind piece.span.to f.1 in omega (arith, a.0, a.1))

-- a source is one list of pieces
pub pieces-one : (bytes : List ℕ) (pieces other : List Piece) → Pieces bytes 0 pieces (length bytes) → Pieces bytes 0 other (length bytes) → other ≡ pieces
pieces-one bytes pieces other f g =
    let o = pieces-front bytes 0 pieces (length bytes) other f g in
    o.is ∙ ap (λ rest. pieces ++ rest) (pieces-end bytes o.rest (length bytes) o.filled) ∙ append-nil pieces
