-- Single punctuation characters.
use Rattle.std.specs.Prelude.{ℕ, Bool, false, ◌==◌, Option, Some, None, if◌then◌else◌}
use Rattle.logos_lexeme.specs.declared.lexeme.Spacing.TheVariants.{Alone, Joint}
use Rattle.logos_token.specs.declared.token.views.TokenTree.{TokenTree}
use Rattle.logos_token.specs.Tokens.{Token, identifier, punctuation, literal, doc, group}
use Rattle.logos_token.specs.Views.{tree_of}

-- Whether a token is the punctuation `expected`, with no other punctuation directly after it.
abbrev pub is_alone : ℕ → Token → Bool
is_alone expected (identifier text span) = false
is_alone expected (punctuation character Alone span) = character == expected
is_alone expected (punctuation character Joint span) = false
is_alone expected (literal text span) = false
is_alone expected (doc text span) = false
is_alone expected (group delimiter span inside) = false

-- The token, unless it is the punctuation `expected` with no other punctuation directly after it.
abbrev pub unless_alone : ℕ → Option TokenTree → Option TokenTree
unless_alone expected None = None
unless_alone expected (Some tree) = if is_alone expected (tree_of tree) then None else Some tree
