-- Token trees: tokens, and groups with the tokens inside them.
use Rattle.std.specs.Prelude.{◌≡◌, ℕ, ◌+◌, max, List, Option, Some, None}
use Rattle.logos_lexeme.specs.declared.lexeme.Span.{Span}
use Rattle.logos_lexeme.specs.declared.lexeme.Spacing.{Spacing}
use Rattle.logos_lexeme.specs.declared.lexeme.Delimiter.{Delimiter}

mutual
  -- A token with its span. Its text is bytes of the source.
  pub data Token : Type 0 where
    identifier : (text : List ℕ) (span : Span) → Token
    punctuation : (character : ℕ) (spacing : Spacing) (span : Span) → Token
    literal : (text : List ℕ) (span : Span) → Token
    doc : (text : List ℕ) (span : Span) → Token
    -- The span reaches from the opening delimiter to the closing one.
    group : (delimiter : Delimiter) (span : Span) (inside : TokenList) → Token

  -- A run of tokens: empty, or a token and the run after it.
  pub data TokenList : Type 0 where
    none : TokenList
    also : Token → TokenList → TokenList

-- The span of a token.
abbrev pub span_of : Token → Span
span_of (identifier text span) = span
span_of (punctuation character spacing span) = span
span_of (literal text span) = span
span_of (doc text span) = span
span_of (group delimiter span inside) = span

-- The first token, if there is one.
abbrev pub first_of : TokenList → Option Token
first_of none = None
first_of (also token rest) = Some token

-- The tokens after the first one.
abbrev pub rest_of : TokenList → TokenList
rest_of none = none
rest_of (also token rest) = rest

-- The byte offset at which the last token of a run ends.
abbrev pub end_of : Token → TokenList → ℕ
end_of token none = (span_of token).to
end_of token (also next rest) = end_of next rest

-- The span from the first token to the last one, or 0..0 if the run has no tokens.
abbrev pub run_span : TokenList → Span
run_span none = record { from = 0; to = 0 }
run_span (also token rest) = record { from = (span_of token).from; to = end_of token rest }

abbrev mutual
  -- The number of tokens in a token: itself and those inside it.
  pub token_count : Token → ℕ
  token_count (identifier text span) = 1
  token_count (punctuation character spacing span) = 1
  token_count (literal text span) = 1
  token_count (doc text span) = 1
  token_count (group delimiter span inside) = 1 + count_of inside

  -- The number of tokens in a run, with those inside groups.
  pub count_of : TokenList → ℕ
  count_of none = 0
  count_of (also token rest) = token_count token + count_of rest

-- The tokens of a run, and after them those of another.
abbrev pub append : TokenList → TokenList → TokenList
append none more = more
append (also token rest) more = also token (append rest more)

-- The second run is the rest of the first one after some tokens.
pub record IsRestOf (run rest : TokenList) : Type 0 where
  pub front : TokenList
  pub is : run ≡ append front rest

abbrev mutual
  -- The depth of the groups that are nested in a token, with the token itself if it is a group.
  pub token_depth : Token → ℕ
  token_depth (identifier text span) = 0
  token_depth (punctuation character spacing span) = 0
  token_depth (literal text span) = 0
  token_depth (doc text span) = 0
  token_depth (group delimiter span inside) = 1 + depth_of inside

  -- The depth of the groups that are nested in a run.
  pub depth_of : TokenList → ℕ
  depth_of none = 0
  depth_of (also token rest) = max (token_depth token) (depth_of rest)
