-- A source spells at most one list of tokens, and none if it is unreadable.
use Rattle.std.proofs.Common.{◌≡◌, ℕ, ◌+◌, ◌<◌, max, Bool, true, false, cond, List, [], ◌∷◌, ◌++◌, length, Some, None, arith, sym, ◌∙◌, ap, refl}
use Rattle.std.proofs.lemmas.List.{append-nil}
use Rattle.logos_lexeme.specs.declared.lexeme.Span.{Span}
use Rattle.logos_lexeme.specs.declared.lexeme.Delimiter.{Delimiter}
use Rattle.logos_lexeme.specs.declared.lexeme.LexemeKind.{LexemeKind}
use Rattle.logos_lexeme.specs.declared.lexeme.LexemeKind.TheVariants.{Opening, Closing}
use Rattle.logos_lexeme.specs.declared.lexeme.LexicalKind.{LexicalKind}
use Rattle.logos_lexeme.specs.Lexemes.{IsNext, IsStuck}
use Rattle.logos_token.specs.Tokens.{TokenList, depth_of}
use Rattle.logos_token.specs.Spelling.{Piece, Pieces, Lexeme, closes, lexeme_of, seen, lexemes, is_partner, opened, most_open, Spells, IsFront, IsUnreadable, broken, unmatched, unclosed, IsTooDeep}
use Rattle.logos_token.proofs.reading.PieceLemmas.{piece-advances, piece-one, no-piece, seen-append, IsFrontOf, pieces-front, pieces-one}
use Rattle.logos_token.proofs.reading.NestingLemmas.{opened-lexemes, opened-append, most_open-lexemes, most_open-append, most_open-least, lexemes-one}

pub spells-one : (bytes : List ℕ) (tokens other : TokenList) → Spells bytes tokens → Spells bytes other → tokens ≡ other
spells-one bytes tokens other s t = lexemes-one tokens other (s.nested ∙ ap (seen bytes) (pieces-one bytes t.pieces s.pieces t.filled s.filled) ∙ sym t.nested)

-- after all tokens no delimiter is open
spells-closed : (bytes : List ℕ) (tokens : TokenList) (s : Spells bytes tokens) → opened [] (seen bytes s.pieces) ≡ Some []
spells-closed bytes tokens s = ap (opened []) (sym s.nested ∙ sym (append-nil (lexemes tokens))) ∙ opened-lexemes tokens [] []

-- the token after a front closes all that is open there
module _ (bytes : List ℕ) (at : ℕ) (around : List (Delimiter × ℕ)) (front : IsFront bytes at around) (tokens : TokenList) (s : Spells bytes tokens) where
  part : IsFrontOf bytes front.pieces at s.pieces
  part = pieces-front bytes 0 front.pieces at s.pieces front.filled s.filled

  seen-parts : seen bytes s.pieces ≡ seen bytes front.pieces ++ seen bytes part.rest
  seen-parts = ap (seen bytes) part.is ∙ seen-append bytes front.pieces part.rest

  rest-closes : opened around (seen bytes part.rest) ≡ Some []
  rest-closes = sym (opened-append (seen bytes front.pieces) (seen bytes part.rest) [] around front.nested) ∙ sym (ap (opened []) seen-parts) ∙ spells-closed bytes tokens s

closes-nothing : (around : List (Delimiter × ℕ)) (delimiter : Delimiter) (to : ℕ) (rest : List Lexeme) → opened around (closes delimiter to ∷ []) ≡ None → opened around (closes delimiter to ∷ rest) ≡ None
closes-nothing [] delimiter to rest e = refl
closes-nothing (innermost ∷ around) delimiter to rest e = go (is_partner innermost.0 delimiter) e
  where
    go : (partner : Bool) → cond partner (opened around []) None ≡ None → cond partner (opened around rest) None ≡ None
    go true e' = cc
    go false e' = refl

not-broken : (bytes : List ℕ) (at : ℕ) (kind : LexicalKind) (span : Span) (rest : List Piece) → at < length bytes → IsStuck bytes at kind span → Pieces bytes at rest (length bytes) → ⊥
not-broken bytes at kind span [] inside stuck filled = omega arith
not-broken bytes at kind span (piece ∷ rest) inside stuck filled = no-piece bytes at kind span piece.kind piece.span.to stuck filled.1

-- a piece that is at the offset of others is the first of these
begins-with : (bytes : List ℕ) (from : ℕ) (kind : LexemeKind) (to : ℕ) (rest : List Piece) → IsNext bytes from kind to → Pieces bytes from rest (length bytes) →
    (afterward : List Lexeme) × (seen bytes rest ≡ lexeme_of bytes kind (record { from = from; to = to }) ++ afterward)
begins-with bytes from kind to [] next filled = absurd (let a = piece-advances bytes from kind to next in omega (arith, a.0, a.1))
begins-with bytes from kind to (piece ∷ rest) next filled =
    let one = piece-one bytes from piece.kind kind piece.span.to to filled.1 next in
    let L : LexemeKind → ℕ → ℕ → List Lexeme = λ k f t. lexeme_of bytes k (record { from = f; to = t }) ++ seen bytes rest in
    (seen bytes rest, ap (λ k. L k piece.span.from piece.span.to) one.0 ∙ ap (λ f. L kind f piece.span.to) filled.0 ∙ ap (L kind from) one.1)

pub unreadable-excludes : (bytes : List ℕ) (kind : LexicalKind) (span : Span) (tokens : TokenList) → IsUnreadable bytes kind span → Spells bytes tokens → ⊥
unreadable-excludes bytes kind span tokens (broken b) s = not-broken bytes b.at kind span (part bytes b.at b.around b.front tokens s).rest b.inside b.stuck (part bytes b.at b.around b.front tokens s).filled
unreadable-excludes bytes kind span tokens (unmatched u) s =
    let rest = part bytes span.from u.around u.front tokens s in
    let first = begins-with bytes span.from (Closing u.delimiter) span.to rest.rest u.piece rest.filled in
    let none = closes-nothing u.around u.delimiter span.to first.0 u.apart in
    let some = rest-closes bytes span.from u.around u.front tokens s in
    let e : None ≡ Some [] = sym none ∙ sym (ap (opened u.around) first.1) ∙ some in
    cc
unreadable-excludes bytes kind span tokens (unclosed u) s =
    let e = pieces-one bytes s.pieces u.front.pieces s.filled u.front.filled in
    let f : Some ((u.delimiter, span.from) ∷ u.around) ≡ Some [] = sym u.front.nested ∙ ap (λ ps. opened [] (seen bytes ps)) e ∙ spells-closed bytes tokens s in
    cc

-- if more delimiters are open than allowed, the tokens are nested deeper
pub deep-excludes : (bytes : List ℕ) (span : Span) (tokens : TokenList) → IsTooDeep bytes span → Spells bytes tokens → 128 < depth_of tokens
deep-excludes bytes span tokens d s =
    let rest = part bytes span.from d.around d.front tokens s in
    let first = begins-with bytes span.from (Opening d.delimiter) span.to rest.rest d.piece rest.filled in
    let whole = most_open-append (seen bytes d.front.pieces) (seen bytes rest.rest) [] d.around d.front.nested in
    let afterward : most_open (length d.around) (seen bytes rest.rest) ≡ most_open (length d.around + 1) first.0 = ap (most_open (length d.around)) first.1 in
    let least = most_open-least (length d.around + 1) first.0 in
    let full = d.full in
    let depth : max (0 + depth_of tokens) 0 ≡ most_open 0 (seen bytes d.front.pieces ++ seen bytes rest.rest) =
    sym (most_open-lexemes tokens 0 []) ∙ ap (most_open 0) (append-nil (lexemes tokens) ∙ s.nested ∙ seen-parts bytes span.from d.around d.front tokens s) in
    omega arith
