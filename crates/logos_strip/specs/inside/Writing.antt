-- The writer of stripped tokens.
use Rattle.std.specs.Prelude.{ℕ, List, [], ◌∷◌, ◌++◌, Option, Some, None}
use Rattle.logos_token.specs.declared.token.Punct.{Punct}
use Rattle.logos_token.specs.declared.token.views.Group.{Group}
use Rattle.logos_token.specs.Tokens.{Token, punctuation, group, TokenList, append}
use Rattle.logos_token.specs.Views.{stream_tokens, inside_of}
use Rattle.logos_strip.specs.declared.spots.Scope.{Scope}
use Rattle.logos_strip.specs.declared.spots.Scope.TheVariants.{Enum, Attribute, Derives, Variants, Fields}
use Rattle.logos_strip.specs.declared.writer.Writer.{Writer}
use Rattle.logos_strip.specs.Stripping.{left}

-- The punctuation that is not written yet.
abbrev pub held : Option Punct → List (Option Token)
held None = []
held (Some p) = Some (punctuation p.character p.spacing p.span) ∷ []

-- The tokens of a writer after these pieces are written.
abbrev pub completed : Writer → List (Option Token) → TokenList
completed writer pieces = append (stream_tokens writer.stream) (left (held writer.held ++ pieces))

-- A group as a token.
abbrev pub group_token : Group → Token
group_token g = group g.delimiter g.span (inside_of g)

-- The greatest number of parts of an enum that can be nested inside this one.
abbrev pub rank : Scope → ℕ
rank Enum = 2
rank Attribute = 1
rank Derives = 0
rank Variants = 1
rank Fields = 0
