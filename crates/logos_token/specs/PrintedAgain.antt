-- Tokens without their spans, and the runs whose printed text spells them again.
use Rattle.std.specs.Prelude.{◌≡◌, ℕ, List}
use Rattle.logos_lexeme.specs.declared.lexeme.Span.{Span}
use Rattle.logos_lexeme.specs.declared.lexeme.Spacing.TheVariants.{Joint}
use Rattle.logos_lexeme.specs.declared.lexeme.Delimiter.{Delimiter}
use Rattle.logos_token.specs.Tokens.{Token, identifier, punctuation, literal, doc, group, TokenList, none, also, append}
use Rattle.logos_token.specs.Spelling.{Spells}

-- The span of a token that is not in the source.
abbrev pub no_span : Span
no_span = record { from = 0; to = 0 }

abbrev mutual
  -- A token without its span, and without the spans of the tokens inside it.
  pub bare_token : Token → Token
  bare_token (identifier text span) = identifier text no_span
  bare_token (punctuation character spacing span) = punctuation character spacing no_span
  bare_token (literal text span) = literal text no_span
  bare_token (doc text span) = doc text no_span
  bare_token (group delimiter span inside) = group delimiter no_span (bare inside)

  -- A run without its spans.
  pub bare : TokenList → TokenList
  bare none = none
  bare (also token rest) = also (bare_token token) (bare rest)

-- The bytes spell these tokens, apart from their spans.
pub record SpellsAgain (bytes : List ℕ) (tokens : TokenList) : Type 0 where
  pub again : TokenList
  pub spelled : Spells bytes again
  pub same : bare again ≡ bare tokens

-- The run consists of neighboring tokens of another run, or of tokens inside one of its groups, at
-- any depth.
pub data IsRunOf (run : TokenList) : TokenList → Type 0 where
  here : {tokens : TokenList} (front back : TokenList) → tokens ≡ append front (append run back) → IsRunOf run tokens
  within : {tokens : TokenList} (front : TokenList) (delimiter : Delimiter) (span : Span) (inside back : TokenList) → tokens ≡ append front (also (group delimiter span inside) back) → IsRunOf run inside → IsRunOf run tokens

-- The last token of the run is punctuation that is joint to the token after it.
pub record EndsJoint (run : TokenList) : Type 0 where
  pub front : TokenList
  pub character : ℕ
  pub span : Span
  pub is : run ≡ append front (also (punctuation character Joint span) none)
