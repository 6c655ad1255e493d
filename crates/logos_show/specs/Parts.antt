-- The texts of enums.
use Rattle.std.specs.Prelude.{◌≡◌, ◌⊎◌, ℕ, List, [], slice_range}
use Rattle.logos_lexeme.specs.declared.lexeme.Span.{Span}

-- A text is the part of another one at a span, or is empty.
abbrev pub IsPartAt : List ℕ → Span → List ℕ → Type 0
IsPartAt text span part = (part ≡ slice_range text span.from span.to) ⊎ (part ≡ [])
