-- The runs of the tokens of a source have spans of it.
use Rattle.std.proofs.Common.{◌+◌, ◌-◌, ◌<◌, ◌≤◌, ℕ, List, [], ◌∷◌, ◌++◌, IsUtf8, IsCharBoundary, sym, subst, length, arith}
use Rattle.std.proofs.lemmas.Str.{IsCharBoundary-start}
use Rattle.logos_lexeme.specs.declared.lexeme.Span.{Span}
use Rattle.logos_lexeme.specs.declared.lexeme.Delimiter.{Delimiter}
use Rattle.logos_lexeme.specs.declared.lexeme.LexemeKind.{LexemeKind}
use Rattle.logos_lexeme.specs.declared.lexeme.LexemeKind.TheVariants.{Gap, Identifier, Literal, Doc, Punctuation, Opening, Closing}
use Rattle.logos_token.specs.Tokens.{Token, TokenList, identifier, punctuation, literal, doc, group, none, also, append, span_of, end_of, run_span}
use Rattle.logos_token.specs.PrintedAgain.{IsRunOf, here, within}
use Rattle.logos_token.specs.Spans.{IsSpanOf}
use Rattle.logos_token.specs.Spelling.{Piece, Pieces, Lexeme, leaf, opens, closes, lexeme_of, seen, lexemes, token_lexemes, Spells, TokenOccurs, RunOccurs}
use Rattle.logos_token.proofs.reading.PieceLemmas.{piece-boundary}
use Rattle.logos_token.proofs.reading.OrderLemmas.{spelled-in_order}

-- a span begins and ends between characters
abbrev pub IsCut : List ℕ → Span → Type 0
IsCut text span = IsCharBoundary text span.from × IsCharBoundary text span.to

-- a token begins and ends between characters, and so does each inside it
abbrev mutual
  pub TokenCut : List ℕ → Token → Type 0
  TokenCut text (identifier name span) = IsCut text span
  TokenCut text (punctuation character spacing span) = IsCut text span
  TokenCut text (literal name span) = IsCut text span
  TokenCut text (doc name span) = IsCut text span
  TokenCut text (group delimiter span inside) = IsCut text span × RunCut text inside

  pub RunCut : List ℕ → TokenList → Type 0
  RunCut text none = Unit {0}
  RunCut text (also token rest) = TokenCut text token × RunCut text rest

-- a lexeme begins and ends between characters, as far as its offsets are known
abbrev LexemeCut : List ℕ → Lexeme → Type 0
LexemeCut text (leaf token) = TokenCut text token
LexemeCut text (opens delimiter from) = IsCharBoundary text from
LexemeCut text (closes delimiter to) = IsCharBoundary text to

abbrev LexemesCut : List ℕ → List Lexeme → Type 0
LexemesCut text [] = Unit {0}
LexemesCut text (lexeme ∷ rest) = LexemeCut text lexeme × LexemesCut text rest

cut_front : (text : List ℕ) (front back : List Lexeme) → LexemesCut text (front ++ back) → LexemesCut text front
cut_front text [] back c = tt
cut_front text (lexeme ∷ rest) back c = (c.0, cut_front text rest back c.1)

cut_back : (text : List ℕ) (front back : List Lexeme) → LexemesCut text (front ++ back) → LexemesCut text back
cut_back text [] back c = c
cut_back text (lexeme ∷ rest) back c = cut_back text rest back c.1

-- the lexeme of a piece is cut where the piece is
piece_cut : (text : List ℕ) (kind : LexemeKind) (span : Span) (rest : List Lexeme) → IsCut text span → LexemesCut text rest → LexemesCut text (lexeme_of text kind span ++ rest)
piece_cut text Gap span rest c r = r
piece_cut text Identifier span rest c r = (c, r)
piece_cut text Literal span rest c r = (c, r)
piece_cut text Doc span rest c r = (c, r)
piece_cut text (Punctuation spacing) span rest c r = (c, r)
piece_cut text (Opening delimiter) span rest c r = (c.0, r)
piece_cut text (Closing delimiter) span rest c r = (c.1, r)

seen_cut : (text : List ℕ) (from : ℕ) (pieces : List Piece) (to : ℕ) → IsUtf8 text → IsCharBoundary text from → Pieces text from pieces to → LexemesCut text (seen text pieces)
seen_cut text from [] to utf8 b p = tt
seen_cut text from (piece ∷ rest) to utf8 b p =
    let end = piece-boundary text from piece.kind piece.span.to utf8 b p.1 in
    piece_cut text piece.kind piece.span (seen text rest) (subst (IsCharBoundary text) (sym p.0) b, end) (seen_cut text piece.span.to rest to utf8 end p.2)

mutual
  token_cut : (text : List ℕ) (token : Token) → LexemesCut text (token_lexemes token) → TokenCut text token
  token_cut text (identifier name span) c = c.0
  token_cut text (punctuation character spacing span) c = c.0
  token_cut text (literal name span) c = c.0
  token_cut text (doc name span) c = c.0
  token_cut text (group delimiter span inside) c =
      let last = cut_back text (lexemes inside) (closes delimiter span.to ∷ []) c.1 in
      ((c.0, last.0), run_cut text inside (cut_front text (lexemes inside) (closes delimiter span.to ∷ []) c.1))

  run_cut : (text : List ℕ) (run : TokenList) → LexemesCut text (lexemes run) → RunCut text run
  run_cut text none c = tt
  run_cut text (also token rest) c =
      (token_cut text token (cut_front text (token_lexemes token) (lexemes rest) c), run_cut text rest (cut_back text (token_lexemes token) (lexemes rest) c))

pub append_front : (text : List ℕ) (front rest : TokenList) → RunCut text (append front rest) → RunCut text front
append_front text none rest c = tt
append_front text (also token front) rest c = (c.0, append_front text front rest c.1)

pub append_back : (text : List ℕ) (front rest : TokenList) → RunCut text (append front rest) → RunCut text rest
append_back text none rest c = c
append_back text (also token front) rest c = append_back text front rest c.1

one_cut : (text : List ℕ) (token : Token) → TokenCut text token → IsCut text (run_span (also token none))
one_cut text (identifier name span) c = c
one_cut text (punctuation character spacing span) c = c
one_cut text (literal name span) c = c
one_cut text (doc name span) c = c
one_cut text (group delimiter span inside) c = c.0

pub span_cut : (text : List ℕ) (token : Token) (tail : TokenList) → RunCut text (also token tail) → IsCut text (run_span (also token tail))
span_cut text token none c = one_cut text token c.0
span_cut text token (also next tail) c = ((one_cut text token c.0).0, (span_cut text next tail c.1).1)

pub spelled_cut : (text : List ℕ) (tokens : TokenList) → IsUtf8 text → Spells text tokens → RunCut text tokens
spelled_cut text tokens utf8 s =
    run_cut text tokens (subst (LexemesCut text) (sym s.nested) (seen_cut text 0 s.pieces (length text) utf8 (IsCharBoundary-start text utf8) s.filled))

-- each value of a list
abbrev pub Each : {A : Type 0} → (A → Type 0) → List A → Type 0
Each P [] = Unit {0}
Each P (value ∷ rest) = P value × Each P rest

-- A run of tokens that occur in order in a text, each of which begins and ends between characters.
pub record Fits (text : List ℕ) (run : TokenList) : Type 0 where
  pub from : ℕ
  pub to : ℕ
  pub occurs : RunOccurs text from run to
  pub cut : RunCut text run

pub spelled_fits : (text : List ℕ) (tokens : TokenList) → IsUtf8 text → Spells text tokens → Fits text tokens
spelled_fits text tokens utf8 s = record { from = 0; to = length text; occurs = spelled-in_order text tokens s; cut = spelled_cut text tokens utf8 s }

-- tokens in order, before other tokens and after others
record Parted (text : List ℕ) (from : ℕ) (front rest : TokenList) (to : ℕ) : Type 0 where
  middle : ℕ
  before : RunOccurs text from front middle
  after : RunOccurs text middle rest to

parted : (text : List ℕ) (from : ℕ) (front rest : TokenList) (to : ℕ) → RunOccurs text from (append front rest) to → Parted text from front rest to
parted text from none rest to s = record { middle = from; before = omega arith; after = s }
parted text from (also token front) rest to s = let p = parted text (span_of token).to front rest to s.1 in record { middle = p.middle; before = (s.0, p.before); after = p.after }

pub fits_front : (text : List ℕ) (front rest : TokenList) → Fits text (append front rest) → Fits text front
fits_front text front rest f = let p = parted text f.from front rest f.to f.occurs in record { from = f.from; to = p.middle; occurs = p.before; cut = append_front text front rest f.cut }

pub fits_back : (text : List ℕ) (front rest : TokenList) → Fits text (append front rest) → Fits text rest
fits_back text front rest f = let p = parted text f.from front rest f.to f.occurs in record { from = p.middle; to = f.to; occurs = p.after; cut = append_back text front rest f.cut }

pub fits_rest : (text : List ℕ) (token : Token) (rest : TokenList) → Fits text (also token rest) → Fits text rest
fits_rest text token rest f = fits_back text (also token none) rest f

pub fits_first : (text : List ℕ) (token : Token) (rest : TokenList) → Fits text (also token rest) → Fits text (also token none)
fits_first text token rest f = fits_front text (also token none) rest f

pub fits_inside : (text : List ℕ) (delimiter : Delimiter) (span : Span) (inside rest : TokenList) → Fits text (also (group delimiter span inside) rest) → Fits text inside
fits_inside text delimiter span inside rest f = record { from = span.from + 1; to = span.to - 1; occurs = f.occurs.0.2; cut = f.cut.0.1 }

pub fits_none : (text : List ℕ) → Fits text none
fits_none text = record { from = 0; to = 0; occurs = omega arith; cut = tt }

-- the span of a run that fits
token_order : (text : List ℕ) (from : ℕ) (token : Token) → TokenOccurs text from token → (from ≤ (span_of token).from) × ((span_of token).from < (span_of token).to)
token_order text from (identifier name span) s = (s.0, s.1)
token_order text from (punctuation character spacing span) s = (s.0, s.1)
token_order text from (literal name span) s = (s.0, s.1)
token_order text from (doc name span) s = (s.0, s.1)
token_order text from (group delimiter span inside) s = (s.0, s.1)

run_order : (text : List ℕ) (from : ℕ) (token : Token) (rest : TokenList) (to : ℕ) → RunOccurs text from (also token rest) to → (span_of token).from < end_of token rest
run_order text from token none to s = (token_order text from token s.0).1
run_order text from token (also next rest) to s =
    let first = (token_order text from token s.0).1 in
    let second = (token_order text (span_of token).to next s.1.0).0 in
    let others = run_order text (span_of token).to next rest to s.1 in
    omega (arith, first, second, others)

pub span_fits : (text : List ℕ) (run : TokenList) → IsUtf8 text → Fits text run → IsSpanOf text (run_span run)
span_fits text none utf8 f = record { order = omega arith; begins = IsCharBoundary-start text utf8; ends = IsCharBoundary-start text utf8 }
span_fits text (also token rest) utf8 f =
    let order = run_order text f.from token rest f.to f.occurs in
    let cut = span_cut text token rest f.cut in
    record { order = omega (arith, order); begins = cut.0; ends = cut.1 }

pub fits_of : (text : List ℕ) (run tokens : TokenList) → IsRunOf run tokens → Fits text tokens → Fits text run
fits_of text run tokens (here front back e) f = fits_front text run back (fits_back text front (append run back) (rw e at f))
fits_of text run tokens (within front delimiter span inside back e h) f =
    fits_of text run inside h (fits_inside text delimiter span inside back (fits_back text front (also (group delimiter span inside) back) (rw e at f)))

pub run-spans : (text : List ℕ) → IsUtf8 text → (run tokens : TokenList) → Spells text tokens → IsRunOf run tokens → IsSpanOf text (run_span run)
run-spans text utf8 run tokens s h = span_fits text run utf8 (fits_of text run tokens h (spelled_fits text tokens utf8 s))
