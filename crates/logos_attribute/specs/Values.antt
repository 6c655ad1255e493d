-- Numbers and booleans in an attribute's argument.
use Rattle.std.specs.Prelude.{ℕ, ◌^◌, ◌&&◌, nat_lt, Bool, true, false, List, length, codes, Option, Some, None, if◌then◌else◌}
use Rattle.std.specs.Str.{bytes_eq, all_ascii_digits}
use Rattle.std.specs.Str.Parse.{digits_value}
use Rattle.logos_token.specs.Tokens.{TokenList, identifier, literal, none, also}

-- The number that decimal digits spell, if it fits in 64 bits.
abbrev pub decimal : List ℕ → Option ℕ
decimal text = if all_ascii_digits text && (nat_lt 0 (length text) && nat_lt (digits_value 10 text) (2 ^ 64)) then Some (digits_value 10 text) else None

-- The number of a run that is one literal of decimal digits.
abbrev pub number_in : TokenList → Option ℕ
number_in (also (literal text span) none) = decimal text
number_in run = None

-- The boolean with this name.
abbrev pub boolean_named : List ℕ → Option Bool
boolean_named text = if bytes_eq text (codes "true") then Some true else (if bytes_eq text (codes "false") then Some false else None)

-- The boolean of a run that is one identifier, `true` or `false`.
abbrev pub boolean_in : TokenList → Option Bool
boolean_in (also (identifier text span) none) = boolean_named text
boolean_in run = None
