-- Definitions that contracts cite: those of lower crates, and those of this crate that name none of
-- its types.
pub use Rattle.std.specs.Char.{digit_value, is_ascii_digit}
pub use Rattle.std.specs.Str.{IsCharBoundary}
pub use Rattle.logos_lexeme.specs.LexemeCharacters.{character, is_continuing, is_mark, is_space, is_start, past}
pub use Rattle.logos_lexeme.specs.LexemeRuns.{IsFirst, Passes, Run, Steps}
