-- The tokens that a source spells occur in it in order.
use Rattle.std.proofs.Common.{◌≡◌, ℕ, ◌+◌, ◌-◌, ◌<◌, ◌≤◌, ◌⊎◌, inl, inr, List, [], ◌∷◌, ◌++◌, length, slice_index, slice_range, arith, sym, ◌∙◌, subst, ap, refl}
use Rattle.std.proofs.lemmas.List.{append-nil}
use Rattle.logos_lexeme.specs.declared.lexeme.Span.{Span}
use Rattle.logos_lexeme.specs.declared.lexeme.Spacing.{Spacing}
use Rattle.logos_lexeme.specs.declared.lexeme.Delimiter.{Delimiter}
use Rattle.logos_lexeme.specs.declared.lexeme.LexemeKind.{LexemeKind}
use Rattle.logos_lexeme.specs.declared.lexeme.LexemeKind.TheVariants.{Gap, Identifier, Literal, Doc, Punctuation, Opening, Closing}
use Rattle.logos_token.specs.Tokens.{Token, identifier, punctuation, literal, doc, group, TokenList, none, also, span_of}
use Rattle.logos_token.specs.Spelling.{Piece, Pieces, Lexeme, leaf, opens, closes, lexeme_of, seen, lexemes, Spells, TokenOccurs, RunOccurs}
use Rattle.logos_token.proofs.reading.PieceLemmas.{piece-advances}
use Rattle.logos_token.proofs.reading.NestingLemmas.{run-lexemes}

-- the piece of the next lexeme
record NextLexeme (bytes : List ℕ) (from : ℕ) (lexeme : Lexeme) (more : List Lexeme) (to : ℕ) : Type 0 where
  kind : LexemeKind
  span : Span
  begins : from ≤ span.from
  begun : span.from < span.to
  is : lexeme_of bytes kind span ≡ lexeme ∷ []
  rest : List Piece
  filled : Pieces bytes span.to rest to
  afterward : seen bytes rest ≡ more

-- a gap has no lexeme, another piece has one
one-lexeme : (bytes : List ℕ) (kind : LexemeKind) (span : Span) → (lexeme_of bytes kind span ≡ []) ⊎ ((l : Lexeme) × (lexeme_of bytes kind span ≡ l ∷ []))
one-lexeme bytes Gap span = inl refl
one-lexeme bytes Identifier span = inr (leaf (identifier (slice_range bytes span.from span.to) span), refl)
one-lexeme bytes Literal span = inr (leaf (literal (slice_range bytes span.from span.to) span), refl)
one-lexeme bytes Doc span = inr (leaf (doc (slice_range bytes span.from span.to) span), refl)
one-lexeme bytes (Punctuation spacing) span = inr (leaf (punctuation (slice_index bytes span.from) spacing span), refl)
one-lexeme bytes (Opening delimiter) span = inr (opens delimiter span.from, refl)
one-lexeme bytes (Closing delimiter) span = inr (closes delimiter span.to, refl)

next-lexeme : (bytes : List ℕ) (pieces : List Piece) (from : ℕ) (lexeme : Lexeme) (more : List Lexeme) (to : ℕ) → Pieces bytes from pieces to → seen bytes pieces ≡ lexeme ∷ more → NextLexeme bytes from lexeme more to
next-lexeme bytes [] from lexeme more to filled is = absurd cc
next-lexeme bytes (piece ∷ pieces) from lexeme more to filled is =
    let a = piece-advances bytes from piece.kind piece.span.to filled.1 in
    elim (one-lexeme bytes piece.kind piece.span) [
      | inl gap ↦
          let n = next-lexeme bytes pieces piece.span.to lexeme more to filled.2 (ap (λ ls. ls ++ seen bytes pieces) (sym gap) ∙ is) in
          record {
            kind = n.kind;
            span = n.span;
            begins = let b = n.begins in omega (arith, a.0);
            begun = n.begun;
            is = n.is;
            rest = n.rest;
            filled = n.filled;
            afterward = n.afterward;
          }
      | inr l ↦
          let e : l.0 ∷ seen bytes pieces ≡ lexeme ∷ more = ap (λ ls. ls ++ seen bytes pieces) (sym l.1) ∙ is in
          let first : l.0 ≡ lexeme = cc in
          let begins = filled.0 in
          record {
            kind = piece.kind;
            span = piece.span;
            begins = omega arith;
            begun = omega (arith, a.0);
            is = l.1 ∙ ap (λ x. x ∷ []) first;
            rest = pieces;
            filled = filled.2;
            afterward = cc;
          }
    ]

identifier-is : (bytes : List ℕ) (kind : LexemeKind) (s : Span) (text : List ℕ) (span : Span) → lexeme_of bytes kind s ≡ leaf (identifier text span) ∷ [] → (s ≡ span) × (text ≡ slice_range bytes s.from s.to)
identifier-is bytes Gap s text span e = absurd cc
identifier-is bytes Identifier s text span e = (cc, cc)
identifier-is bytes Literal s text span e = absurd cc
identifier-is bytes Doc s text span e = absurd cc
identifier-is bytes (Punctuation spacing) s text span e = absurd cc
identifier-is bytes (Opening delimiter) s text span e = absurd cc
identifier-is bytes (Closing delimiter) s text span e = absurd cc

literal-is : (bytes : List ℕ) (kind : LexemeKind) (s : Span) (text : List ℕ) (span : Span) → lexeme_of bytes kind s ≡ leaf (literal text span) ∷ [] → (s ≡ span) × (text ≡ slice_range bytes s.from s.to)
literal-is bytes Gap s text span e = absurd cc
literal-is bytes Identifier s text span e = absurd cc
literal-is bytes Literal s text span e = (cc, cc)
literal-is bytes Doc s text span e = absurd cc
literal-is bytes (Punctuation spacing) s text span e = absurd cc
literal-is bytes (Opening delimiter) s text span e = absurd cc
literal-is bytes (Closing delimiter) s text span e = absurd cc

doc-is : (bytes : List ℕ) (kind : LexemeKind) (s : Span) (text : List ℕ) (span : Span) → lexeme_of bytes kind s ≡ leaf (doc text span) ∷ [] → (s ≡ span) × (text ≡ slice_range bytes s.from s.to)
doc-is bytes Gap s text span e = absurd cc
doc-is bytes Identifier s text span e = absurd cc
doc-is bytes Literal s text span e = absurd cc
doc-is bytes Doc s text span e = (cc, cc)
doc-is bytes (Punctuation spacing) s text span e = absurd cc
doc-is bytes (Opening delimiter) s text span e = absurd cc
doc-is bytes (Closing delimiter) s text span e = absurd cc

punctuation-is : (bytes : List ℕ) (kind : LexemeKind) (s : Span) (character : ℕ) (spacing : Spacing) (span : Span) → lexeme_of bytes kind s ≡ leaf (punctuation character spacing span) ∷ [] → (s ≡ span) × (character ≡ slice_index bytes s.from)
punctuation-is bytes Gap s character spacing span e = absurd cc
punctuation-is bytes Identifier s character spacing span e = absurd cc
punctuation-is bytes Literal s character spacing span e = absurd cc
punctuation-is bytes Doc s character spacing span e = absurd cc
punctuation-is bytes (Punctuation other) s character spacing span e = (cc, cc)
punctuation-is bytes (Opening delimiter) s character spacing span e = absurd cc
punctuation-is bytes (Closing delimiter) s character spacing span e = absurd cc

opening-is : (bytes : List ℕ) (kind : LexemeKind) (s : Span) (delimiter : Delimiter) (from : ℕ) → lexeme_of bytes kind s ≡ opens delimiter from ∷ [] → s.from ≡ from
opening-is bytes Gap s delimiter from e = absurd cc
opening-is bytes Identifier s delimiter from e = absurd cc
opening-is bytes Literal s delimiter from e = absurd cc
opening-is bytes Doc s delimiter from e = absurd cc
opening-is bytes (Punctuation spacing) s delimiter from e = absurd cc
opening-is bytes (Opening other) s delimiter from e = cc
opening-is bytes (Closing other) s delimiter from e = absurd cc

closing-is : (bytes : List ℕ) (kind : LexemeKind) (s : Span) (delimiter : Delimiter) (to : ℕ) → lexeme_of bytes kind s ≡ closes delimiter to ∷ [] → s.to ≡ to
closing-is bytes Gap s delimiter to e = absurd cc
closing-is bytes Identifier s delimiter to e = absurd cc
closing-is bytes Literal s delimiter to e = absurd cc
closing-is bytes Doc s delimiter to e = absurd cc
closing-is bytes (Punctuation spacing) s delimiter to e = absurd cc
closing-is bytes (Opening other) s delimiter to e = absurd cc
closing-is bytes (Closing other) s delimiter to e = cc

pieces-order : (bytes : List ℕ) (from : ℕ) (pieces : List Piece) (to : ℕ) → Pieces bytes from pieces to → from ≤ to
pieces-order bytes from [] to e = omega arith
pieces-order bytes from (piece ∷ rest) to f = let a = piece-advances bytes from piece.kind piece.span.to f.1 in omega (arith, a.0, pieces-order bytes piece.span.to rest to f.2)

-- tokens in front of other lexemes, and the pieces after them
record Placed (bytes : List ℕ) (from : ℕ) (tokens : TokenList) (more : List Lexeme) (to : ℕ) : Type 0 where
  mid : ℕ
  rest : List Piece
  filled : Pieces bytes mid rest to
  afterward : seen bytes rest ≡ more
  occurs : RunOccurs bytes from tokens mid

token-order : (bytes : List ℕ) (from : ℕ) (token : Token) → TokenOccurs bytes from token → from < (span_of token).to
token-order bytes from (identifier text span) s = omega (arith, s.0, s.1)
token-order bytes from (punctuation character spacing span) s = omega (arith, s.0, s.1)
token-order bytes from (literal text span) s = omega (arith, s.0, s.1)
token-order bytes from (doc text span) s = omega (arith, s.0, s.1)
token-order bytes from (group delimiter span inside) s = omega (arith, s.0, s.1)

run-order : (bytes : List ℕ) (from : ℕ) (tokens : TokenList) (to : ℕ) → RunOccurs bytes from tokens to → from ≤ to
run-order bytes from none to s = s
run-order bytes from (also token rest) to s = omega (arith, token-order bytes from token s.0, run-order bytes (span_of token).to rest to s.1)

token-earlier : (bytes : List ℕ) (from from' : ℕ) (token : Token) → from' ≤ from → TokenOccurs bytes from token → TokenOccurs bytes from' token
token-earlier bytes from from' (identifier text span) h s = (omega (arith, s.0), s.1, s.2)
token-earlier bytes from from' (punctuation character spacing span) h s = (omega (arith, s.0), s.1, s.2)
token-earlier bytes from from' (literal text span) h s = (omega (arith, s.0), s.1, s.2)
token-earlier bytes from from' (doc text span) h s = (omega (arith, s.0), s.1, s.2)
token-earlier bytes from from' (group delimiter span inside) h s = (omega (arith, s.0), s.1, s.2)

run-later : (bytes : List ℕ) (from : ℕ) (tokens : TokenList) (to to' : ℕ) → to ≤ to' → RunOccurs bytes from tokens to → RunOccurs bytes from tokens to'
run-later bytes from none to to' h s = omega (arith, s)
run-later bytes from (also token rest) to to' h s = (s.0, run-later bytes (span_of token).to rest to to' h s.1)

run-earlier : (bytes : List ℕ) (from from' : ℕ) (tokens : TokenList) (to : ℕ) → from' ≤ from → RunOccurs bytes from tokens to → RunOccurs bytes from' tokens to
run-earlier bytes from from' none to h s = omega (arith, s)
run-earlier bytes from from' (also token rest) to h s = (token-earlier bytes from from' token h s.0, s.1)

-- a token without others inside, and those after it
leaf-placed : (bytes : List ℕ) (from : ℕ) (token : Token) (rest : TokenList) (more : List Lexeme) (to : ℕ) (end : ℕ) → end ≡ (span_of token).to → TokenOccurs bytes from token → Placed bytes end rest more to → Placed bytes from (also token rest) more to
leaf-placed bytes from token rest more to end is s p = record {
  mid = p.mid;
  rest = p.rest;
  filled = p.filled;
  afterward = p.afterward;
  occurs = (s, let P : ℕ → Type 0 = λ k. RunOccurs bytes k rest p.mid in subst P is p.occurs);
}

-- a text with a span of its own
text-occurs : (bytes : List ℕ) (from : ℕ) (text : List ℕ) (s span : Span) → from ≤ s.from → s.from < s.to → (s ≡ span) × (text ≡ slice_range bytes s.from s.to) → (from ≤ span.from) × (span.from < span.to) × (text ≡ slice_range bytes span.from span.to)
text-occurs bytes from text s span begins begun is =
    let P : Span → Type 0 = λ x. (from ≤ x.from) × (x.from < x.to) × (text ≡ slice_range bytes x.from x.to) in subst P is.0 (begins, begun, is.1)

character-occurs : (bytes : List ℕ) (from character : ℕ) (s span : Span) → from ≤ s.from → s.from < s.to → (s ≡ span) × (character ≡ slice_index bytes s.from) → (from ≤ span.from) × (span.from < span.to) × (character ≡ slice_index bytes span.from)
character-occurs bytes from character s span begins begun is =
    let P : Span → Type 0 = λ x. (from ≤ x.from) × (x.from < x.to) × (character ≡ slice_index bytes x.from) in subst P is.0 (begins, begun, is.1)

placed : (bytes : List ℕ) (tokens : TokenList) (pieces : List Piece) (from : ℕ) (more : List Lexeme) (to : ℕ) → Pieces bytes from pieces to → seen bytes pieces ≡ lexemes tokens ++ more → Placed bytes from tokens more to
placed bytes none pieces from more to filled is = record { mid = from; rest = pieces; filled = filled; afterward = is; occurs = omega arith }
placed bytes (also (identifier text span) rest) pieces from more to filled is =
    let n = next-lexeme bytes pieces from (leaf (identifier text span)) (lexemes rest ++ more) to filled is in
    let e = identifier-is bytes n.kind n.span text span n.is in
    leaf-placed bytes from (identifier text span) rest more to n.span.to (ap (λ s. s.to) e.0) (text-occurs bytes from text n.span span n.begins n.begun e) (placed bytes rest n.rest n.span.to more to n.filled n.afterward)
placed bytes (also (punctuation character spacing span) rest) pieces from more to filled is =
    let n = next-lexeme bytes pieces from (leaf (punctuation character spacing span)) (lexemes rest ++ more) to filled is in
    let e = punctuation-is bytes n.kind n.span character spacing span n.is in
    leaf-placed bytes from (punctuation character spacing span) rest more to n.span.to (ap (λ s. s.to) e.0) (character-occurs bytes from character n.span span n.begins n.begun e) (placed bytes rest n.rest n.span.to more to n.filled n.afterward)
placed bytes (also (literal text span) rest) pieces from more to filled is =
    let n = next-lexeme bytes pieces from (leaf (literal text span)) (lexemes rest ++ more) to filled is in
    let e = literal-is bytes n.kind n.span text span n.is in
    leaf-placed bytes from (literal text span) rest more to n.span.to (ap (λ s. s.to) e.0) (text-occurs bytes from text n.span span n.begins n.begun e) (placed bytes rest n.rest n.span.to more to n.filled n.afterward)
placed bytes (also (doc text span) rest) pieces from more to filled is =
    let n = next-lexeme bytes pieces from (leaf (doc text span)) (lexemes rest ++ more) to filled is in
    let e = doc-is bytes n.kind n.span text span n.is in
    leaf-placed bytes from (doc text span) rest more to n.span.to (ap (λ s. s.to) e.0) (text-occurs bytes from text n.span span n.begins n.begun e) (placed bytes rest n.rest n.span.to more to n.filled n.afterward)
placed bytes (also (group delimiter span inside) rest) pieces from more to filled is =
    let o = next-lexeme bytes pieces from (opens delimiter span.from) (lexemes inside ++ (closes delimiter span.to ∷ (lexemes rest ++ more))) to filled (is ∙ run-lexemes delimiter span inside rest more) in
    let i = placed bytes inside o.rest o.span.to (closes delimiter span.to ∷ (lexemes rest ++ more)) to o.filled o.afterward in
    let c = next-lexeme bytes i.rest i.mid (closes delimiter span.to) (lexemes rest ++ more) to i.filled i.afterward in
    let first = opening-is bytes o.kind o.span delimiter span.from o.is in
    let last = closing-is bytes c.kind c.span delimiter span.to c.is in
    let between = run-order bytes o.span.to inside i.mid i.occurs in
    let o-begins = o.begins in let o-begun = o.begun in let c-begins = c.begins in let c-begun = c.begun in
    let lower : span.from + 1 ≤ o.span.to = omega arith in
    let upper : i.mid ≤ span.to - 1 = omega arith in
    leaf-placed bytes from (group delimiter span inside) rest more to c.span.to last
    (omega arith, omega arith, run-later bytes (span.from + 1) inside i.mid (span.to - 1) upper (run-earlier bytes o.span.to (span.from + 1) inside i.mid lower i.occurs))
    (placed bytes rest c.rest c.span.to more to c.filled c.afterward)

pub spelled-in_order : (bytes : List ℕ) (tokens : TokenList) → Spells bytes tokens → RunOccurs bytes 0 tokens (length bytes)
spelled-in_order bytes tokens s =
    let p = placed bytes tokens s.pieces 0 [] (length bytes) s.filled (sym s.nested ∙ sym (append-nil (lexemes tokens))) in
    run-later bytes 0 tokens p.mid (length bytes) (pieces-order bytes p.mid p.rest (length bytes) p.filled) p.occurs
