-- A line and a column in an argument, such as `2:14`.
use Rattle.std.specs.Prelude.{ℕ, ◌+◌, ◌-◌, ◌*◌, ◌==◌, nat_le, nat_lt, Bool, List, [], ◌∷◌, Option, Some, None, if◌then◌else◌, length}
use Rattle.std.specs.List.{after_first, before_first, position_or_len}
use Rattle.logos_lines.specs.declared.location.Location.{Location}

-- A number, unless it is 0.
abbrev pub positive : ℕ → Option ℕ
positive number = if number == 0 then None else Some number

-- The number with one more digit, unless the result is 0 or has more than seventeen digits.
abbrev pub with_digit : ℕ → ℕ → Option ℕ
with_digit number byte =
    if nat_lt byte 48 then None
    else (if nat_lt 57 byte then None
    else (if nat_le 10000000000000000 number then None
    else positive (number * 10 + (byte - 48))))

-- The number whose digits are those of another one followed by these digits.
abbrev pub digits_after : Option ℕ → List ℕ → Option ℕ
digits_after None digits = None
digits_after (Some number) [] = positive number
digits_after (Some number) (byte ∷ rest) = digits_after (with_digit number byte) rest

-- The number in a text, which is at least 1 and has at most seventeen digits.
abbrev pub number_named : List ℕ → Option ℕ
number_named text = digits_after (Some 0) text

abbrev pub is_colon : ℕ → Bool
is_colon byte = byte == 58

abbrev pub location_of : Option ℕ → Option ℕ → Option Location
location_of (Some line) (Some column) = Some (record { line = line; column = column })
location_of (Some line) None = None
location_of None column = None

-- The line and the column in an argument: two numbers with a colon between them.
abbrev pub location_named : List ℕ → Option Location
location_named word =
    if position_or_len is_colon word == length word then None
    else location_of (number_named (before_first is_colon word)) (number_named (after_first is_colon word))
