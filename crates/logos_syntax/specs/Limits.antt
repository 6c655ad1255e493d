-- The limit on the nesting of a pattern.
use Rattle.std.specs.Prelude.{ℕ}

-- The greatest number of groups, brackets and repetitions that can be nested.
abbrev pub pattern_nesting : ℕ
pattern_nesting = 250
