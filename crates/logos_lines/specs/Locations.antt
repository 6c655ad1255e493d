-- The line and the column of an offset, and the end of a line.
use Rattle.std.specs.Prelude.{ℕ, ◌+◌, ◌==◌, ◌&&◌, ◌||◌, false, nat_le, nat_lt, if◌then◌else◌, Bool, List, [], ◌∷◌, take}
use Rattle.logos_lines.specs.declared.location.Location.{Location}

-- Whether a byte continues a character that an earlier byte began.
abbrev pub continues : ℕ → Bool
continues byte = nat_le 128 byte && nat_lt byte 192

-- The location after one more byte: LF begins a line, and the first byte of any other character a
-- column.
abbrev pub after_byte : Location → ℕ → Location
after_byte location byte =
    if byte == 10 then record { line = location.line + 1; column = 1 }
    else (if continues byte then location else record { line = location.line; column = location.column + 1 })

-- The location after the bytes of a list.
abbrev pub after_bytes : Location → List ℕ → Location
after_bytes location [] = location
after_bytes location (byte ∷ rest) = after_bytes (after_byte location byte) rest

-- The location of an offset of a text.
abbrev pub location_at : List ℕ → ℕ → Location
location_at text offset = after_bytes (record { line = 1; column = 1 }) (take offset text)

-- Whether a list of bytes begins with LF or CR LF.
abbrev pub ends_line : List ℕ → Bool
ends_line [] = false
ends_line (byte ∷ []) = byte == 10
ends_line (byte ∷ next ∷ rest) = (byte == 10) || ((byte == 13) && (next == 10))

-- The number of bytes before the first LF or CR LF, or before the end of the text.
abbrev pub line_length : List ℕ → ℕ
line_length [] = 0
line_length (byte ∷ rest) = if ends_line (byte ∷ rest) then 0 else 1 + line_length rest
