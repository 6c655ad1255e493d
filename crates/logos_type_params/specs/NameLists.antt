-- Declared names with their spans.
use Rattle.std.specs.Prelude.{ℕ, List, [], ◌∷◌, Bool, true, false, if◌then◌else◌}
use Rattle.std.specs.Str.{bytes_eq}
use Rattle.logos_lexeme.specs.declared.lexeme.Span.{Span}
use Rattle.logos_token.specs.declared.token.Ident.{Ident}

-- A name with its span.
pub record Named : Type 0 where
  pub text : List ℕ
  pub at : Span

-- A name with its span.
abbrev pub named_of : Ident → Named
named_of ident = record { text = ident.text.now; at = ident.span }

-- Whether the name is declared.
abbrev pub is_declared : List Named → List ℕ → Bool
is_declared [] text = false
is_declared (n ∷ names) text = if bytes_eq n.text text then true else is_declared names text
