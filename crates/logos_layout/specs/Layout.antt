-- Texts with equal tokens.
use Rattle.std.specs.Prelude.{◌≡◌, ◌⊎◌, ℕ, List, ◌++◌, Option, Some, None, codes, length}
use Rattle.logos_lexeme.specs.declared.lexeme.Delimiter.TheVariants.{Brace}
use Rattle.logos_token.specs.PrintedAgain.{SpellsAgain}
use Rattle.logos_token.specs.Printing.{printed}
use Rattle.logos_token.specs.Spelling.{Spells}
use Rattle.logos_token.specs.Tokens.{Token, TokenList, group, none, also, rest_of}

-- Both texts spell equal tokens, apart from their spans.
pub record SpellsSame (text other : List ℕ) : Type 0 where
  pub tokens : TokenList
  pub spelled : Spells text tokens
  pub again : SpellsAgain other tokens

-- The offset at which a token ends, if it is a group in braces.
abbrev pub braces_end : Token → Option ℕ
braces_end (group Brace span inside) = Some span.to
braces_end token = None

-- The last of these tokens is a group in braces, which ends at an offset.
pub data EndsWithBraces (to : ℕ) : TokenList → Type 0 where
  last : {token : Token} → braces_end token ≡ Some to → EndsWithBraces to (also token none)
  later : {run : TokenList} → EndsWithBraces to (rest_of run) → EndsWithBraces to run

-- A text ends with the closing brace of its last token. So no comment is after its tokens, and text
-- that is appended is neither part of a comment nor of a token of it.
pub record IsClosed (text : List ℕ) : Type 0 where
  pub tokens : TokenList
  pub spelled : Spells text tokens
  pub ends : EndsWithBraces (length text) tokens

-- The second text is the first one laid out: it spells equal tokens and ends with the last of them,
-- a group in braces; or it is the first one unchanged, with LF after it.
abbrev pub IsLaidOut : List ℕ → List ℕ → Type 0
IsLaidOut text laid = (SpellsSame text laid × IsClosed laid) ⊎ (laid ≡ text ++ codes "\n")

-- These bytes are the printed text of the tokens that a text spells.
pub record ArePrinted (text shown : List ℕ) : Type 0 where
  pub tokens : TokenList
  pub spelled : Spells text tokens
  pub is : shown ≡ printed tokens

-- The text represents these tokens: the tokens that it spells print as they do, or it is their
-- printed text.
abbrev pub IsWrittenAs : TokenList → List ℕ → Type 0
IsWrittenAs tokens text = ArePrinted text (printed tokens) ⊎ (text ≡ printed tokens)
