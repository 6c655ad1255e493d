-- The line that names the commit of a program.
use Rattle.std.specs.Prelude.{ℕ, ◌-◌, ◌==◌, ◌&&◌, ◌||◌, nat_le, Bool, false, List, [], codes, if◌then◌else◌, drop, length, slice_index, slice_range}
use Rattle.std.specs.List.{list_all, starts_with}

-- A lower-case hexadecimal digit.
abbrev pub is_hex_digit : ℕ → Bool
is_hex_digit byte = (nat_le 48 byte && nat_le byte 57) || (nat_le 97 byte && nat_le byte 102)

-- The line of a commit: its prefix, forty digits and LF.
abbrev pub is_commit_line : List ℕ → Bool
is_commit_line line =
    if length line == 49 then starts_with (λ one other. one == other) line (codes "commit: ") && ((slice_index line 48 == 10) && list_all is_hex_digit (slice_range line 8 48))
    else false

-- The last line of a program, if it names a commit.
abbrev pub commit_line : List ℕ → List ℕ
commit_line program = if is_commit_line (drop (length program - 49) program) then drop (length program - 49) program else []
