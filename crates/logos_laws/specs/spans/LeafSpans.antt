-- The spans of leaves in a source.
use Rattle.std.specs.Prelude.{◌≡◌, ℕ, List, slice_range, IfSome}
use Rattle.logos_lexeme.specs.declared.lexeme.Span.{Span}
use Rattle.logos_token.specs.Tokens.{TokenList, literal, none, also, run_span}
use Rattle.logos_token.specs.PrintedAgain.{IsRunOf}
use Rattle.logos_token.specs.Spans.{IsSpanOf}
use Rattle.logos_attribute.specs.Callbacks.{view_span}
use Rattle.logos_leaf.specs.Leaves.{LeafView}

-- The span reaches from one of these tokens to another one: it is the span of neighboring tokens,
-- at any depth.
pub record IsRunSpan (tokens : TokenList) (span : Span) : Type 0 where
  pub run : TokenList
  pub is_run : IsRunOf run tokens
  pub whole : span ≡ run_span run

-- The literal of a leaf is one of these tokens, at any depth, and its callback, if it has one,
-- consists of them.
pub record OccursIn (tokens : TokenList) (leaf : LeafView) : Type 0 where
  pub token : IsRunOf (also (literal leaf.source leaf.span) none) tokens
  pub callback : IfSome leaf.callback (λ callback. IsRunSpan tokens (view_span callback))

-- The literal of a leaf, and its callback if it has one, have spans of the source, and the literal
-- is the text at its span.
pub record HasSpansOf (source : List ℕ) (leaf : LeafView) : Type 0 where
  pub span : IsSpanOf source leaf.span
  pub text : leaf.source ≡ slice_range source leaf.span.from leaf.span.to
  pub callback : IfSome leaf.callback (λ callback. IsSpanOf source (view_span callback))
