-- The limits of a source.
use Rattle.std.specs.Prelude.{ℕ}

-- The greatest length of a source, in bytes: 16 MiB.
abbrev pub source_limit : ℕ
source_limit = 16777216

-- The greatest number of delimiters that can be open at once.
abbrev pub delimiter_limit : ℕ
delimiter_limit = 128
