-- Definitions that contracts cite: those of `Imports`, and those that name types of this crate.
pub use Rattle.logos_lexeme.specs.Imports.{digit_value, is_ascii_digit, IsCharBoundary, character, is_continuing, is_mark, is_space, is_start, past, IsFirst, Passes, Run, Steps}
pub use Rattle.logos_lexeme.specs.LexemeEnds.{Closes, Ends, Continues, IsLineEnd, IsName, IsQuoted, IsRaw, IsRawEnd, IsSuffix, ReachesQuote, has_base}
pub use Rattle.logos_lexeme.specs.LexemeOpenings.{block_kind, bytes_opening, character_opening, comment_opening, delimiter_kind, follows_apostrophe, hashes, is_lifetime_name, kind_of, line_kind, literal_at, literal_opening, name_at, opening_at, other_opening, prefix_of, raw_opening, single_kind, spacing, string_opening}
pub use Rattle.logos_lexeme.specs.Lexemes.{IsNext, IsStuck}
pub use Rattle.logos_lexeme.specs.LiteralBodies.{BreaksLine, IsAllowed, IsCharacterPiece, IsEscape, IsHexEscape, IsPiece, IsSound, IsUnicodeEscape, Represents, bytes_of, digits_between, greatest_of, hex_value, is_blank, is_hex, is_simple, simple_value}
pub use Rattle.logos_lexeme.specs.inside.CommentReads.{IsOnward}
pub use Rattle.logos_lexeme.specs.inside.LiteralReads.{IsPlain, ReadsByte}
