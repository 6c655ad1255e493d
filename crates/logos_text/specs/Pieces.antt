-- The locations at which tokens of a source are printed in a text.
use Rattle.std.specs.Prelude.{◌≡◌, ℕ, ◌+◌, List, [], ◌∷◌, ◌++◌, length, string_bytes}
use Rattle.logos_lexeme.specs.declared.lexeme.Span.{Span}
use Rattle.logos_text.specs.declared.sink.Piece.{Piece}
use Rattle.logos_text.specs.declared.sink.Sink.{Sink}
use Rattle.logos_token.specs.Printing.{printed}
use Rattle.logos_token.specs.Tokens.{TokenList, run_span}

-- The piece of a run that is printed from an offset on: its bytes in the text, and its span in the
-- source.
abbrev pub piece_at : ℕ → TokenList → Piece
piece_at from run = record { from = from; to = from + length (printed run); span = run_span run }

-- The runs are printed in a text that begins at an offset: each once, in order and without overlap.
-- `pieces` are their pieces, and there are no others.
abbrev pub ArePrinted : List TokenList → ℕ → List Piece → List ℕ → Type 0
ArePrinted [] offset pieces text = pieces ≡ []
ArePrinted (run ∷ runs) offset pieces text =
    (before after : List ℕ) × (rest : List Piece) × (text ≡ before ++ (printed run ++ after)) × (pieces ≡ piece_at (offset + length before) run ∷ rest)
    × ArePrinted runs (offset + length (before ++ printed run)) rest after

-- A sink has no text.
pub record IsEmptySink (sink : Sink) : Type 0 where
  pub text : string_bytes sink.text ≡ []
  pub pieces : sink.pieces.items ≡ []

-- The text was appended to a sink, and the runs are printed in it.
pub record Prints (text : List ℕ) (runs : List TokenList) (old new : Sink) : Type 0 where
  pub pieces : List Piece
  pub is_text : string_bytes new.text ≡ string_bytes old.text ++ text
  pub are_pieces : new.pieces.items ≡ old.pieces.items ++ pieces
  pub printed : ArePrinted runs (length (string_bytes old.text)) pieces text

-- The printed text of tokens with this span was appended to a sink.
pub record PrintsPiece (text : List ℕ) (span : Span) (old new : Sink) : Type 0 where
  pub is_text : string_bytes new.text ≡ string_bytes old.text ++ text
  pub are_pieces : new.pieces.items
      ≡ old.pieces.items ++ record { from = length (string_bytes old.text); to = length (string_bytes old.text) + length text; span = span } ∷ []

-- Some text was appended to a sink, and the runs are printed in it.
pub record Notes (runs : List TokenList) (old new : Sink) : Type 0 where
  pub text : List ℕ
  pub prints : Prints text runs old new

-- Some text that ends with `last` was appended to a sink, and the runs are printed in it.
pub record NotesLast (last : List ℕ) (runs : List TokenList) (old new : Sink) : Type 0 where
  pub front : List ℕ
  pub prints : Prints (front ++ last) runs old new
