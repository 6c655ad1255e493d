-- Definitions that contracts cite: those of lower crates, and those of this crate that name none of
-- its types.
pub use Rattle.logos_lexeme.specs.Lexemes.{IsNext}
pub use Rattle.logos_lexeme.specs.LiteralBodies.{Holds, bytes_of}
pub use Rattle.std.proofs.Props.{props}
pub use Rattle.std.specs.Char.{encode_utf8}
pub use Rattle.std.specs.Iterator.{YieldsFirstBy, item_count}
pub use Rattle.std.specs.List.{flat_map}
pub use Rattle.std.specs.Str.{IsCharBoundary}
pub use Rattle.logos_token.specs.EscapedTexts.{escaped, escaped_character}
pub use Rattle.logos_token.specs.First.{after_colon, after_path_mark, after_word, begins_with, is_path_mark}
pub use Rattle.logos_token.specs.Limits.{delimiter_limit, source_limit}
pub use Rattle.logos_token.specs.PrintedAgain.{EndsJoint, IsRunOf, SpellsAgain}
pub use Rattle.logos_token.specs.Printing.{closing_text, gap_after, is_line_comment, opening_text, print_part, printed}
pub use Rattle.logos_token.specs.Spans.{IsSpanOf}
pub use Rattle.logos_token.specs.Spelling.{RunOccurs, Spells}
pub use Rattle.logos_token.specs.Tokens.{IsRestOf, TokenList, also, append, count_of, depth_of, first_of, group, identifier, none, rest_of, run_span, span_of}
