-- The group at the front of a run.
use Rattle.std.specs.Prelude.{Option, Some, None}
use Rattle.logos_lexeme.specs.declared.lexeme.Span.{Span}
use Rattle.logos_lexeme.specs.declared.lexeme.Delimiter.TheVariants.{Parenthesis, Bracket, Brace}
use Rattle.logos_token.specs.Tokens.{TokenList, group, also}
use Rattle.logos_token.specs.Views.{tokens_of}
use Rattle.logos_enum.specs.declared.groups.Opened.{Opened as OpenedView}

-- The span of a group, the tokens inside it, and the tokens after it.
pub record Opened : Type 0 where
  pub span : Span
  pub inside : TokenList
  pub rest : TokenList

-- The group in parentheses at the front, if there is one.
abbrev pub parenthesis_in : TokenList → Option Opened
parenthesis_in (also (group Parenthesis span inside) rest) = Some (record { span = span; inside = inside; rest = rest })
parenthesis_in run = None

-- The group in brackets at the front, if there is one.
abbrev pub bracket_in : TokenList → Option Opened
bracket_in (also (group Bracket span inside) rest) = Some (record { span = span; inside = inside; rest = rest })
bracket_in run = None

-- The group in braces at the front, if there is one.
abbrev pub brace_in : TokenList → Option Opened
brace_in (also (group Brace span inside) rest) = Some (record { span = span; inside = inside; rest = rest })
brace_in run = None

-- The group that a value represents.
abbrev pub opened_value : OpenedView → Opened
opened_value opened = record { span = opened.span; inside = tokens_of opened.inside; rest = tokens_of opened.rest }
