-- An attribute as a value.
use Rattle.std.specs.Prelude.{Option, Some, None}
use Rattle.logos_lexeme.specs.declared.lexeme.Span.{Span}
use Rattle.logos_token.specs.declared.token.views.Tokens.{Tokens}
use Rattle.logos_token.specs.Tokens.{TokenList, punctuation, doc, also}
use Rattle.logos_token.specs.Views.{tokens_of}
use Rattle.logos_enum.specs.declared.attribute_run.Attribute.{Attribute}
use Rattle.logos_enum.specs.Groups.{Opened, bracket_in}

-- The span of an attribute, and the tokens inside its brackets if it has some.
pub record AttributeValue : Type 0 where
  pub span : Span
  pub inside : Option TokenList

-- An attribute, and the tokens after it.
pub record SplitAttribute : Type 0 where
  pub attribute : AttributeValue
  pub rest : TokenList

-- The attribute with `#` at this span and these brackets after it.
abbrev pub bracketed : Span → Option Opened → Option SplitAttribute
bracketed mark None = None
bracketed mark (Some opened) =
    Some (record { attribute = record { span = record { from = mark.from; to = opened.span.to }; inside = Some opened.inside }; rest = opened.rest })

-- The first attribute of a run, and the tokens after it.
abbrev pub attribute_in : TokenList → Option SplitAttribute
attribute_in (also (doc text span) rest) = Some (record { attribute = record { span = span; inside = None }; rest = rest })
attribute_in (also (punctuation character spacing span) rest) = bracketed span (bracket_in rest)
attribute_in run = None

-- The tokens inside the brackets of an attribute, if it has brackets.
abbrev pub inside_value : Option Tokens → Option TokenList
inside_value None = None
inside_value (Some tokens) = Some (tokens_of tokens)

-- The attribute that a value represents.
abbrev pub attribute_value : Attribute → AttributeValue
attribute_value attribute = record { span = attribute.span; inside = inside_value attribute.inside }

-- The attribute that a value represents, with the tokens after it.
abbrev pub split_value : Attribute × Tokens → SplitAttribute
split_value read = record { attribute = attribute_value read.0; rest = tokens_of read.1 }
