-- The result of stripping a source.
use Rattle.std.specs.Prelude.{◌≡◌, ◌≤◌, ℕ, List, length, Ok}
use Rattle.logos_token.specs.Tokens.{TokenList, depth_of}
use Rattle.logos_token.specs.Spelling.{Spells}
use Rattle.logos_enum.specs.Enum.{Reads}
use Rattle.logos_enum.specs.EnumValues.{EnumValue}
use Rattle.logos_strip.specs.Stripping.{stripped}

-- The tokens are an enum, and these remain after stripping it.
pub record AreStripped (tokens left : TokenList) : Type 0 where
  pub enum : EnumValue
  pub reads : Reads tokens (Ok enum)
  pub is : left ≡ stripped tokens

-- The source spells an enum, and these tokens remain after stripping it.
pub record IsStripped (source : List ℕ) (left : TokenList) : Type 0 where
  pub tokens : TokenList
  pub spelled : Spells source tokens
  pub stripped : AreStripped tokens left

-- The source spells an enum, and is within the limits on its length and on the nesting of its
-- delimiters.
pub record SpellsEnum (source : List ℕ) : Type 0 where
  pub tokens : TokenList
  pub enum : EnumValue
  pub spelled : Spells source tokens
  pub reads : Reads tokens (Ok enum)
  pub short : length source ≤ 16777216
  pub shallow : depth_of tokens ≤ 128
