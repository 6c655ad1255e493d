-- Definitions that contracts cite: those of lower crates, and those of this crate that name none of
-- its types.
pub use Rattle.logos_lexeme.specs.declared.lexeme.Spacing.{Spacing}
pub use Rattle.logos_lexeme.specs.declared.lexeme.Span.{Span}
pub use Rattle.logos_token.specs.Tokens.{IsRestOf, TokenList, also, append, count_of, identifier, none, punctuation, rest_of}
pub use Rattle.logos_token.specs.Views.{tokens_of, tree_of}
pub use Rattle.logos_enum.specs.Marks.{begins_with, first_span, greater, is_none, is_outer}
