-- The implementation of an enum, with the tokens of its source in it.
use Rattle.std.specs.Prelude.{ℕ, List, string_bytes}
use Rattle.logos_code.specs.Code.{CodeValue}
use Rattle.logos_tables.specs.Shapes.{IsLexerOf, IsShown, shape_runs}
use Rattle.logos_tables.specs.declared.shape.Shape.{Shape}
use Rattle.logos_text.specs.Fronts.{AroundValue}
use Rattle.logos_text.specs.Pieces.{ArePrinted}
use Rattle.logos_text.specs.declared.sink.Sink.{Sink}

-- The text of a code in a shape, with these texts around its function. Its pieces are the tokens of
-- the source that it repeats: each run once, at its offset, in order and without overlap.
pub record IsMadeOf (shape : Shape) (around : AroundValue) (code : CodeValue) (made : Sink) : Type 0 where
  pub shown : IsShown shape around code (string_bytes made.text)
  pub pieces : ArePrinted (shape_runs shape around code) 0 made.pieces.items (string_bytes made.text)

-- The implementation of a source without faults, in this shape.
pub record IsImplementation (shape : Shape) (source : List ℕ) (made : Sink) : Type 0 where
  pub around : AroundValue
  pub code : CodeValue
  pub lexer : IsLexerOf shape source around code
  pub made_of : IsMadeOf shape around code made
