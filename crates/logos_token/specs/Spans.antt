-- Spans of a text.
use Rattle.std.specs.Prelude.{ℕ, ◌≤◌, List, IsCharBoundary}
use Rattle.logos_lexeme.specs.declared.lexeme.Span.{Span}

-- The span is a span of the text: its ends are character boundaries, in order.
pub record IsSpanOf (text : List ℕ) (span : Span) : Type 0 where
  pub order : span.from ≤ span.to
  pub begins : IsCharBoundary text span.from
  pub ends : IsCharBoundary text span.to
