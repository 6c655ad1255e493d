-- Definitions that contracts cite.
pub use Rattle.logos_lexeme.specs.declared.lexeme.LexemeKind.TheVariants.{Doc, Gap}
pub use Rattle.logos_lexeme.specs.declared.lexeme.openings.Content.TheVariants.{Bytes, C, Text}
pub use Rattle.logos_lexeme.specs.declared.lexeme.openings.Opening.TheVariants.{Apostrophes, Block, Line, Quotes}
pub use Rattle.logos_laws.specs.lexemes.Openings.{OpensBlock, OpensBlockDoc, OpensBy, OpensLine, OpensLineDoc, OpensNumber, OpensRaw}
