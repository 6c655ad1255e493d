-- The tokens of a pattern outside brackets, and reading them from the front.
use Rattle.std.specs.Prelude.{◌≡◌, ℕ, ◌+◌, ◌*◌, ◌-◌, ◌^◌, Bool, true, false, ◌&&◌, nat_lt, nat_le, ◌==◌, List, [], ◌∷◌, Option, Some, None, Result, Ok, Err, option_map, option_and_then, if◌then◌else◌}
use Rattle.std.specs.List.{list_any}
use Rattle.std.specs.Char.{digit_value}
use lib.Utf8.{scalar}
use Rattle.logos_pattern_tokens.specs.declared.error.Fault.{Fault}
use Rattle.logos_pattern_tokens.specs.declared.error.Fault.TheVariants as faults
use Rattle.logos_pattern_tokens.specs.declared.token.Change.{Change}
use Rattle.logos_pattern_tokens.specs.declared.token.Operator.{Operator}
use Rattle.logos_pattern_tokens.specs.declared.token.Atom.{Atom}
use Rattle.logos_pattern_tokens.specs.declared.token.GroupOpening.{GroupOpening as OpeningValue}
use Rattle.logos_pattern_tokens.specs.declared.token.GroupOpening.TheVariants.{Capture, Named, Plain}
use Rattle.logos_pattern_tokens.specs.declared.token.Token.{Token as TokenValue}
use Rattle.logos_pattern_tokens.specs.declared.token.Token.TheVariants as values
use Rattle.logos_pattern_tokens.specs.bracket.Form.{Bracket}

-- The characters that have not been read.
abbrev pub Text : Type 0
Text = List ℕ

-- The forms of a group's opening.
pub data Opening : Type 0 where
  -- `(`
  capturing : Opening
  -- `(?P<name>` or `(?<name>`.
  named : Text → Opening
  -- `(?:` or `(?flags:`.
  plain : Change → Opening

-- A token outside brackets.
pub data Token : Type 0 where
  atom : Atom → Token
  bracketed : Bracket → Token
  -- `|`
  bar : Token
  opens : Opening → Token
  closes : Token
  -- `(?flags)`
  sets : Change → Token
  repeats : Operator → Token

-- The opening of a group that a value represents.
abbrev pub opening_view : OpeningValue → Opening
opening_view Capture = capturing
opening_view (Named name) = named name.now
opening_view (Plain change) = plain change

-- The token that a token of the reader represents.
abbrev pub token_view : TokenValue → Token
token_view (values.Atom a) = atom a
token_view values.Bar = bar
token_view (values.Open opening) = opens (opening_view opening)
token_view values.Close = closes
token_view (values.Setting change) = sets change
token_view (values.Repeat op) = repeats op

-- Unless memory ran out, the result of a function represents the result of the definition that
-- reads the same token: its view is the value, or a fault if there is none.
abbrev pub Yields : {X Y : Type 0} → (X → Y) → Result X Fault → Option Y → Type 0
Yields view (Ok x) read = read ≡ Some (view x)
Yields view (Err (faults.Syntax kind)) read = read ≡ None
Yields view (Err faults.Memory) read = Unit {0}

infixl 10 ◌>>=◌
abbrev pub ◌>>=◌ : {A B : Type 0} → Option A → (A → Option B) → Option B
o >>= f = option_and_then f o

-- ---- characters.

-- The character is among these.
abbrev pub is_among : ℕ → List ℕ → Bool
is_among c = list_any (λ d. d == c)

-- One of `\ . + * ? ( ) | [ { ^ $`, which mean something other than themselves.
abbrev pub is_meta : ℕ → Bool
is_meta c = is_among c (92 ∷ 46 ∷ 43 ∷ 42 ∷ 63 ∷ 40 ∷ 41 ∷ 124 ∷ 91 ∷ 123 ∷ 94 ∷ 36 ∷ [])

-- The character is an ASCII digit.
abbrev pub is_digit : ℕ → Bool
is_digit c = nat_le 48 c && nat_le c 57

-- ---- numbers.

-- The value of a hexadecimal digit.
abbrev pub hex_digit : ℕ → Option ℕ
hex_digit c = if nat_lt (digit_value c) 16 then Some (digit_value c) else None

-- The number that the hexadecimal digits spell, as a continuation of the number before them.
abbrev pub hex_from : ℕ → Text → Option ℕ
hex_from n [] = Some n
hex_from n (c ∷ rest) = hex_digit c >>= λ d. hex_from (n * 16 + d) rest

-- The number, if it is the number of a Unicode scalar value.
abbrev pub only_scalar : ℕ → Option ℕ
only_scalar n = if scalar n then Some n else None

-- The Unicode scalar value with the number that the hexadecimal digits spell.
unfoldable pub scalar_of : Text → Option ℕ
scalar_of digits = hex_from 0 digits >>= only_scalar

-- The number that the digits at the front spell, as a continuation of the number before them, and
-- the rest of the text.
abbrev pub number_from : ℕ → Text → ℕ × Text
number_from n [] = (n, [])
number_from n (c ∷ rest) = if is_digit c then number_from (n * 10 + (c - 48)) rest else (n, c ∷ rest)

-- The number and the rest of the text, if the number is less than 2^32.
abbrev pub fits : ℕ × Text → Option (ℕ × Text)
fits x = if nat_lt x.0 (2 ^ 32) then Some x else None

-- The number at the front and the rest of the text: at least one digit, and a number below 2 ^ 32.
unfoldable pub number_at : Text → Option (ℕ × Text)
number_at [] = None
number_at (c ∷ rest) = if is_digit c then fits (number_from 0 (c ∷ rest)) else None

-- The text before the first `end`, and the text after it.
abbrev pub cut_at : ℕ → Text → Option (Text × Text)
cut_at end [] = None
cut_at end (c ∷ rest) = if c == end then Some ([], rest) else option_map (λ x. (c ∷ x.0, x.1)) (cut_at end rest)

-- ---- operators.

-- An operator with these counts, which a `?` makes lazy.
unfoldable pub lazy_at : ℕ → Option ℕ → Text → Token × Text
lazy_at least most [] = (repeats (record { least = least; most = most; lazy = false }), [])
lazy_at least most (c ∷ rest) =
    if c == 63 then (repeats (record { least = least; most = most; lazy = true }), rest)
    else (repeats (record { least = least; most = most; lazy = false }), c ∷ rest)

-- The operator whose counts end with the `}` at the front.
unfoldable pub count_end : ℕ → Option ℕ → Text → Option (Token × Text)
count_end least most [] = None
count_end least most (c ∷ rest) = if c == 125 then Some (lazy_at least most rest) else None

-- The operator whose greatest count is the number that was read, unless it is less than the least
-- count.
unfoldable pub order_at : ℕ → ℕ × Text → Option (Token × Text)
order_at least x = if nat_le least x.0 then count_end least (Some x.0) x.1 else None

-- The operator with the least count `least`, from the text after `{n,`.
unfoldable pub most_at : ℕ → Text → Option (Token × Text)
most_at least [] = None
most_at least (c ∷ rest) =
    if c == 125 then Some (lazy_at least None rest)
    else number_at (c ∷ rest) >>= order_at least

-- The operator with the least count `least`, from the text after `{n`.
unfoldable pub bounds_at : ℕ → Text → Option (Token × Text)
bounds_at least [] = None
bounds_at least (c ∷ rest) = if c == 44 then most_at least rest else count_end least (Some least) (c ∷ rest)

-- The operator with counts, from the text after `{`.
unfoldable pub count_at : Text → Option (Token × Text)
count_at text = number_at text >>= λ x. bounds_at x.0 x.1
