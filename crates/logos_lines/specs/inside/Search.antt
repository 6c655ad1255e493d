-- The search for a column.
use Rattle.std.specs.Prelude.{ℕ, ◌+◌, ◌==◌, ◌&&◌, ◌||◌, not, if◌then◌else◌, Bool}
use Rattle.logos_lines.specs.Locations.{continues}

-- Whether the search for a column ends before a character that begins with this byte.
abbrev pub ends_search : ℕ → ℕ → ℕ → Bool
ends_search byte reached column = not (continues byte) && ((reached == column) || (byte == 10))

-- The column after a byte that is not LF.
abbrev pub next_column : ℕ → ℕ → ℕ
next_column byte column = if continues byte then column else column + 1
