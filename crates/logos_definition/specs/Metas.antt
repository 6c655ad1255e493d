-- The names and the arguments of attributes.
use Rattle.std.specs.Prelude.{ℕ, ◌==◌, Option, Some, None, if◌then◌else◌}
use Rattle.logos_token.specs.Tokens.{TokenList, identifier, punctuation, group, also}
use Rattle.logos_token.specs.Views.{tokens_of}
use Rattle.logos_token.specs.declared.token.views.Tokens.{Tokens}
use Rattle.logos_attribute.specs.Slices.{Slice, ident_slice}
use Rattle.logos_enum.specs.AttributeValues.{AttributeValue}
use Rattle.logos_definition.specs.declared.meta.Meta.{Meta as MetaView}

-- The character `:`.
abbrev pub colon : ℕ
colon = 58

-- An attribute whose path is one identifier: its name, and the tokens inside its group, if it has
-- one.
pub record Meta : Type 0 where
  pub name : Slice
  pub arguments : Option TokenList

-- The tokens after the name: nothing, a group, or `=` and a value. If the path continues, the
-- attribute has no name.
abbrev pub after_name : Slice → TokenList → Option Meta
after_name name (also (group delimiter span inside) rest) = Some (record { name = name; arguments = Some inside })
after_name name (also (punctuation character spacing span) rest) = if character == colon then None else Some (record { name = name; arguments = None })
after_name name run = Some (record { name = name; arguments = None })

-- The attribute with these tokens inside its brackets.
abbrev pub meta_inside : TokenList → Option Meta
meta_inside (also (identifier text span) rest) = after_name (record { text = text; span = span }) rest
meta_inside run = None

-- The name and the arguments of an attribute. A documentation comment has none.
abbrev pub inside_meta : Option TokenList → Option Meta
inside_meta None = None
inside_meta (Some run) = meta_inside run

-- The name and the arguments of an attribute whose path is one identifier.
abbrev pub meta_of : AttributeValue → Option Meta
meta_of attribute = inside_meta attribute.inside

-- The tokens inside the group of an attribute, if it has one.
abbrev pub arguments_view : Option Tokens → Option TokenList
arguments_view None = None
arguments_view (Some tokens) = Some (tokens_of tokens)

-- The name and the arguments of an attribute as a value.
abbrev pub meta_view : MetaView → Meta
meta_view meta = record { name = ident_slice meta.name; arguments = arguments_view meta.arguments }
