-- The literals that values of type `Literal` represent.
use Rattle.logos_pattern.specs.declared.pattern.literal.Literal.{Literal}
use Rattle.logos_pattern.specs.Literals.{token_of, held_value as value_of}
use Rattle.logos_token.specs.Held.{held_value}
use Rattle.logos_token.specs.declared.token.Ident.{Ident}
use Rattle.logos_attribute.specs.Slices.{ident_slice, literal_slice}
use Rattle.logos_attribute.specs.Literals.{LiteralView, NamedLiteral}

-- A literal as a value.
abbrev pub literal_view : Literal → LiteralView
literal_view literal = record { token = literal_slice (token_of literal); held = held_value (value_of literal) }

-- A literal with the name before it, as a value.
abbrev pub named_literal_view : Ident × Literal → NamedLiteral
named_literal_view pair = record { name = ident_slice pair.0; literal = literal_view pair.1 }
