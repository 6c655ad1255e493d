-- Attributes, and the tokens before `enum`. A mismatch is the span of the first token from the left
-- that does not fit, or `None` if all fit. At the end of the tokens it is `0..0`.
use Rattle.std.specs.Prelude.{◌≡◌, ◌<◌, ◌==◌, if◌then◌else◌, Option, Some, None, Result, Ok, Err, codes}
use Rattle.std.specs.Str.{bytes_eq}
use Rattle.logos_lexeme.specs.declared.lexeme.Span.{Span}
use Rattle.logos_lexeme.specs.declared.lexeme.Delimiter.TheVariants.{Parenthesis, Bracket}
use Rattle.logos_token.specs.Tokens.{TokenList, identifier, punctuation, doc, group, none, also, span_of, append, count_of}
use Rattle.logos_token.specs.First.{is_path_mark, colon}
use Rattle.logos_token.specs.declared.token.views.Tokens.{Tokens}
use Rattle.logos_token.specs.Views.{tokens_of}
use Rattle.logos_enum.specs.declared.error.ReadError.{ReadError}
use Rattle.logos_enum.specs.declared.error.ReadError.TheVariants.{Grammar}
use Rattle.logos_enum.specs.declared.error.Mismatch.{Mismatch}
use Rattle.logos_enum.specs.Marks.{hash, equals, first_span, is_outer}
use Rattle.logos_enum.specs.Rules.{Outcome}

-- The mismatch if a token is left.
abbrev pub end_mismatch : TokenList → Option Span
end_mismatch none = None
end_mismatch (also token rest) = Some (span_of token)

-- The mismatch if no token is left.
abbrev pub value_mismatch : TokenList → Option Span
value_mismatch none = Some (first_span none)
value_mismatch (also token rest) = None

abbrev mutual
  -- The mismatch after a path, which is followed by nothing, by one group, by `=` and at least one
  -- token, or by `::` and an identifier, and again by these.
  pub path_mismatch : TokenList → Option Span
  path_mismatch none = None
  path_mismatch (also (group delimiter span inside) rest) = end_mismatch rest
  path_mismatch (also (punctuation character spacing span) rest) =
      if is_path_mark character spacing then colon_mismatch span rest
      else (if character == equals then value_mismatch rest
      else Some span)
  path_mismatch (also token rest) = Some (span_of token)

  -- The mismatch after a `:` with this span, which is the first one of `::`, or does not fit if it
  -- is alone.
  pub colon_mismatch : Span → TokenList → Option Span
  colon_mismatch first (also (punctuation character spacing span) rest) = if character == colon then segment_mismatch rest else Some first
  colon_mismatch first run = Some first

  -- The mismatch after `::`.
  pub segment_mismatch : TokenList → Option Span
  segment_mismatch (also (identifier text span) rest) = path_mismatch rest
  segment_mismatch run = Some (first_span run)

-- A step along the tokens after a path: to the tokens after a longer path, to the end, or to the
-- mismatch.
abbrev pub IsPathStep : TokenList → Result (Option Tokens) Mismatch → Type 0
IsPathStep run (Ok (Some rest)) = (path_mismatch run ≡ path_mismatch (tokens_of rest)) × (count_of (tokens_of rest) < count_of run)
IsPathStep run (Ok None) = path_mismatch run ≡ None
IsPathStep run (Err mismatch) = path_mismatch run ≡ Some mismatch.span

-- The mismatch inside the brackets of an attribute: a path, which can begin with `::`, and the
-- tokens that can follow it.
abbrev pub attribute_mismatch : TokenList → Option Span
attribute_mismatch (also (punctuation character spacing span) rest) = if is_path_mark character spacing then colon_mismatch span rest else Some span
attribute_mismatch run = segment_mismatch run

-- The outcome `outcome`, or the error for the mismatch if there is one.
abbrev pub unless : Option Span → Result TokenList ReadError → Result TokenList ReadError
unless None outcome = outcome
unless (Some span) outcome = Err (Grammar span)

abbrev mutual
  -- The tokens after all attributes at the front. An attribute is `#` and brackets, or an outer
  -- documentation comment.
  pub after_attributes : TokenList → Result TokenList ReadError
  after_attributes (also (doc text span) rest) = if is_outer text then after_attributes rest else Ok (also (doc text span) rest)
  after_attributes (also (punctuation character spacing span) rest) = if character == hash then after_hash rest else Ok (also (punctuation character spacing span) rest)
  after_attributes run = Ok run

  -- The tokens after all attributes. The run begins after the `#` of the first one.
  pub after_hash : TokenList → Result TokenList ReadError
  after_hash (also (group Bracket span inside) rest) = unless (attribute_mismatch inside) (after_attributes rest)
  after_hash run = Err (Grammar (first_span run))

-- The tokens of all attributes at the front.
pub data Attributes (run : TokenList) : Outcome TokenList → Type 0 where
  occur : {attributes rest : TokenList} → after_attributes run ≡ Ok rest → run ≡ append attributes rest → Attributes run (Ok (attributes, rest))
  broken : {error : ReadError} → after_attributes run ≡ Err error → Attributes run (Err error)

-- The tokens after the parentheses, if they come first.
abbrev pub after_parenthesis : TokenList → TokenList
after_parenthesis (also (group Parenthesis span inside) rest) = rest
after_parenthesis run = run

-- The tokens after a visibility, if one comes first: `pub` and optional parentheses.
abbrev pub after_visibility : TokenList → TokenList
after_visibility (also (identifier text span) rest) = if bytes_eq text (codes "pub") then after_parenthesis rest else also (identifier text span) rest
after_visibility run = run

-- The tokens after `enum`, if it comes first.
abbrev pub after_keyword : TokenList → Option TokenList
after_keyword (also (identifier text span) rest) = if bytes_eq text (codes "enum") then Some rest else None
after_keyword run = None

-- The tokens after an optional visibility and `enum`, if these come first.
abbrev pub announced_in : TokenList → Option TokenList
announced_in run = after_keyword (after_visibility run)

-- The run begins with well-formed attributes with these tokens, an optional visibility and `enum`,
-- and the rest follows.
pub record IsFront (run attributes rest : TokenList) : Type 0 where
  pub middle : TokenList
  pub occur : Attributes run (Ok (attributes, middle))
  pub announced : announced_in middle ≡ Some rest
