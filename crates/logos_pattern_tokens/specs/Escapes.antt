-- The text after a backslash, read from the front.
use Rattle.std.specs.Prelude.{ℕ, Bool, true, false, not, ◌||◌, ◌&&◌, nat_le, nat_lt, ◌==◌, [], ◌∷◌, length, take, drop, Option, Some, None, option_map, if◌then◌else◌}
use Rattle.std.specs.Char.{is_ascii_alphanumeric}
use Rattle.unicode.specs.declared.sets.Set.{Set}
use Rattle.logos_hir.specs.declared.property.PerlKind.TheVariants.{Digit, Space, Word}
use Rattle.logos_hir.specs.Property.{property_named}
use Rattle.logos_pattern_tokens.specs.declared.token.Atom.{Atom}
use Rattle.logos_pattern_tokens.specs.declared.token.Atom.TheVariants.{Character, Byte, TextStart, TextEnd, Boundary, Perl as PerlClass, Property}
use Rattle.logos_pattern_tokens.specs.Token.{Text, ◌>>=◌, is_among, hex_from, scalar_of, cut_at}

-- An ASCII character other than `[0-9A-Za-z<>]`: an escape of it is the character itself.
abbrev pub is_escapable : ℕ → Bool
is_escapable c = nat_lt c 128 && not (is_ascii_alphanumeric c || is_among c (60 ∷ 62 ∷ []))

-- The escapes of one character: the character itself, or one of `\a \f \t \n \r \v`, `\d \s \w \D
-- \S \W`, `\A \z \B`.
abbrev pub single_of : ℕ → Option Atom
single_of c =
    if is_escapable c then Some (Character c)
    else if c == 97 then Some (Character 7)
    else if c == 102 then Some (Character 12)
    else if c == 116 then Some (Character 9)
    else if c == 110 then Some (Character 10)
    else if c == 114 then Some (Character 13)
    else if c == 118 then Some (Character 11)
    else if c == 100 then Some (PerlClass Digit false)
    else if c == 115 then Some (PerlClass Space false)
    else if c == 119 then Some (PerlClass Word false)
    else if c == 68 then Some (PerlClass Digit true)
    else if c == 83 then Some (PerlClass Space true)
    else if c == 87 then Some (PerlClass Word true)
    else if c == 65 then Some TextStart
    else if c == 122 then Some TextEnd
    else if c == 66 then Some (Boundary true)
    else None

-- The text begins with the character.
abbrev pub begins : ℕ → Text → Bool
begins d [] = false
begins d (c ∷ rest) = c == d

-- The name has `=` or `:`, or begins with `^`.
abbrev pub is_form : Text → Bool
is_form name = is_among 61 name || is_among 58 name || begins 94 name

-- The set of the property with this name, if there is one.
unfoldable pub plain_property : Text → Option Set
plain_property name = if is_form name then None else property_named name

-- The property with this name, or its complement, and the rest of the text.
unfoldable pub property_of : Bool → Text → Text → Option (Atom × Text)
property_of negated name rest = option_map (λ set. (Property set negated, rest)) (plain_property name)

-- The property after `\p` or `\P`: `{name}`, or a name of one character.
unfoldable pub property_at : Bool → Text → Option (Atom × Text)
property_at negated [] = None
property_at negated (c ∷ rest) =
    if c == 123 then cut_at 125 rest >>= (λ x. property_of negated x.0 x.1)
    else property_of negated (c ∷ []) rest

-- The character that hexadecimal digits up to `}` spell.
unfoldable pub braces_at : Text → Option (Atom × Text)
braces_at text = cut_at 125 text >>= λ x. if length x.0 == 0 then None else option_map (λ n. (Character n, x.1)) (scalar_of x.0)

-- The character that `width` hexadecimal digits spell.
unfoldable pub fixed_at : ℕ → Text → Option (Atom × Text)
fixed_at width text =
    if nat_le width (length text) then option_map (λ n. (Character n, drop width text)) (scalar_of (take width text)) else None

-- The byte that two hexadecimal digits spell.
unfoldable pub byte_at : Text → Option (Atom × Text)
byte_at text = if nat_le 2 (length text) then option_map (λ n. (Byte n, drop 2 text)) (hex_from 0 (take 2 text)) else None

-- The character or the byte that the text after `\x`, `\u` or `\U` spells.
unfoldable pub hex_at : ℕ → Text → Option (Atom × Text)
hex_at letter [] = None
hex_at letter (c ∷ rest) =
    if c == 123 then braces_at rest
    else if letter == 120 then byte_at (c ∷ rest)
    else if letter == 117 then fixed_at 4 (c ∷ rest)
    else fixed_at 8 (c ∷ rest)

-- A word boundary. A brace after it is a fault.
unfoldable pub boundary_at : Text → Option (Atom × Text)
boundary_at text = if begins 123 text then None else Some (Boundary false, text)

-- An escape of one character.
unfoldable pub single_at : ℕ → Text → Option (Atom × Text)
single_at c rest = option_map (λ a. (a, rest)) (single_of c)

-- The atom of the escape after a backslash, and the rest of the text.
unfoldable pub escape_at : Text → Option (Atom × Text)
escape_at [] = None
escape_at (c ∷ rest) =
    if is_among c (120 ∷ 117 ∷ 85 ∷ []) then hex_at c rest
    else if c == 112 then property_at false rest
    else if c == 80 then property_at true rest
    else if c == 98 then boundary_at rest
    else single_at c rest
