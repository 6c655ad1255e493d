-- The characters of an enum's grammar, and the first token of a run.
use Rattle.std.specs.Prelude.{ℕ, ◌==◌, not, Bool, true, false, List, ◌∷◌}
use Rattle.logos_lexeme.specs.declared.lexeme.Span.{Span}
use Rattle.logos_token.specs.Tokens.{TokenList, none, also, span_of}
pub use Rattle.logos_token.specs.First.{colon, begins_with}

-- The character `#`.
abbrev pub hash : ℕ
hash = 35

-- The character `'`.
abbrev pub quote : ℕ
quote = 39

-- The character `,`.
abbrev pub comma : ℕ
comma = 44

-- The character `-`.
abbrev pub dash : ℕ
dash = 45

-- The character `<`.
abbrev pub less : ℕ
less = 60

-- The character `=`.
abbrev pub equals : ℕ
equals = 61

-- The character `>`.
abbrev pub greater : ℕ
greater = 62

-- The span of the first token, or 0..0 if there is none.
abbrev pub first_span : TokenList → Span
first_span none = record { from = 0; to = 0 }
first_span (also token rest) = span_of token

-- Whether no token is left.
abbrev pub is_none : TokenList → Bool
is_none none = true
is_none (also token rest) = false

-- Whether a documentation comment is an outer one: its third byte is not `!`.
abbrev pub is_outer : List ℕ → Bool
is_outer (first ∷ second ∷ third ∷ rest) = not (third == 33)
is_outer text = false
