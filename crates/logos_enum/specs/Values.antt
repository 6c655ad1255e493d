-- Generic parameters as values.
use Rattle.std.specs.Prelude.{ℕ, List}
use Rattle.logos_lexeme.specs.declared.lexeme.Span.{Span}
use Rattle.logos_token.specs.declared.token.Ident.{Ident}
use Rattle.logos_token.specs.Tokens.{TokenList}
use Rattle.logos_token.specs.Views.{tokens_of}
use Rattle.logos_enum.specs.declared.generics.ParameterKind.{ParameterKind}
use Rattle.logos_enum.specs.declared.generics.Parameter.{Parameter}
use Rattle.logos_enum.specs.declared.generics.Head.{Head as HeadView}

-- A text of the source with its span.
pub record Slice : Type 0 where
  pub text : List ℕ
  pub span : Span

-- The kind and the name of a parameter.
pub record Head : Type 0 where
  pub kind : ParameterKind
  pub name : Slice

-- A generic parameter with all its tokens.
pub record ParameterValue : Type 0 where
  pub kind : ParameterKind
  pub name : Slice
  pub run : TokenList

-- The text of an identifier and its span.
abbrev pub ident_slice : Ident → Slice
ident_slice ident = record { text = ident.text.now; span = ident.span }

-- The kind and the name that a value represents.
abbrev pub head_value : HeadView → Head
head_value head = record { kind = head.kind; name = ident_slice head.name }

-- The parameter that a value represents.
abbrev pub parameter_value : Parameter → ParameterValue
parameter_value parameter = record { kind = parameter.kind; name = ident_slice parameter.name; run = tokens_of parameter.run }
