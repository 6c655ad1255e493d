-- The spelling of tokens outside brackets.
use Rattle.std.specs.Prelude.{◌≡◌, ℕ, ◌+◌, ◌*◌, ◌-◌, ◌^◌, ◌<◌, ◌≤◌, ◌≢◌, Bool, true, false, [], ◌∷◌, ◌++◌, length, Option, Some, None, if◌then◌else◌}
use Rattle.unicode.specs.declared.sets.Set.{Set}
use Rattle.logos_pattern_tokens.specs.declared.token.Change.{Change}
use Rattle.logos_pattern_tokens.specs.declared.token.Atom.{Atom}
use Rattle.logos_pattern_tokens.specs.declared.token.Atom.TheVariants.{Character, Byte, Dot, Caret, Dollar, Boundary, Property}
use Rattle.logos_pattern_tokens.specs.Flags.{no_change, Settings}
use Rattle.logos_pattern_tokens.specs.Token.{Text, Token, atom, bar, opens, closes, sets, repeats, capturing, named, plain, is_among, is_meta, is_digit, hex_from, scalar_of}
use Rattle.logos_pattern_tokens.specs.Escapes.{single_of, plain_property}
use Rattle.logos_pattern_tokens.specs.Openings.{is_name}

-- The text does not begin with the character.
abbrev pub NotBegins : ℕ → Text → Type 0
NotBegins d [] = Unit {0}
NotBegins d (c ∷ rest) = c ≢ d

-- The text does not contain the character.
abbrev pub Lacks : ℕ → Text → Type 0
Lacks d [] = Unit {0}
Lacks d (c ∷ rest) = (c ≢ d) × Lacks d rest

-- ---- counts.

-- Each character of the text is an ASCII digit.
abbrev pub AreDigits : Text → Type 0
AreDigits [] = Unit {0}
AreDigits (c ∷ rest) = (is_digit c ≡ true) × AreDigits rest

-- The number that the digits spell, as a continuation of the number before them.
abbrev pub value_from : ℕ → Text → ℕ
value_from n [] = n
value_from n (c ∷ rest) = value_from (n * 10 + (c - 48)) rest

-- The digits spell the number.
pub record Writes (digits : Text) (n : ℕ) : Type 0 where
  pub some_digit : 0 < length digits
  pub digits_only : AreDigits digits
  pub value : value_from 0 digits ≡ n
  pub fits : n < 2 ^ 32

-- `*`, `+`, `?`, `{n}`, `{n,}`, `{n,m}`.
pub data Counts : Text → ℕ → Option ℕ → Type 0 where
  star : Counts (42 ∷ []) 0 None
  plus : Counts (43 ∷ []) 1 None
  question : Counts (63 ∷ []) 0 (Some 1)
  exactly : (digits : Text) (n : ℕ) → Writes digits n → Counts (123 ∷ digits ++ 125 ∷ []) n (Some n)
  at_least : (digits : Text) (n : ℕ) → Writes digits n → Counts (123 ∷ digits ++ 44 ∷ 125 ∷ []) n None
  between : (digits others : Text) (n m : ℕ) → Writes digits n → Writes others m → n ≤ m → Counts (123 ∷ digits ++ 44 ∷ others ++ 125 ∷ []) n (Some m)

-- ---- escapes.

-- `p`, or `P` for the complement.
abbrev pub property_letter : Bool → ℕ
property_letter negated = if negated then 80 else 112

-- The text, which comes after a backslash, begins with the rest of an escape, and `rest` follows
-- it.
pub data Escapes : Atom → Text → Text → Type 0 where
  single : (c : ℕ) (a : Atom) (rest : Text) → single_of c ≡ Some a → Escapes a (c ∷ rest) rest
  -- `\xHH`, `\uHHHH`, `\UHHHHHHHH`.
  two_digits : (digits rest : Text) (n : ℕ) → length digits ≡ 2 → hex_from 0 digits ≡ Some n → Escapes (Byte n) (120 ∷ digits ++ rest) rest
  four_digits : (digits rest : Text) (n : ℕ) → length digits ≡ 4 → scalar_of digits ≡ Some n → Escapes (Character n) (117 ∷ digits ++ rest) rest
  eight_digits : (digits rest : Text) (n : ℕ) → length digits ≡ 8 → scalar_of digits ≡ Some n → Escapes (Character n) (85 ∷ digits ++ rest) rest
  -- `\x{H..}`, `\u{H..}`, `\U{H..}`.
  any_digits : (letter : ℕ) (digits rest : Text) (n : ℕ) → is_among letter (120 ∷ 117 ∷ 85 ∷ []) ≡ true → 0 < length digits → scalar_of digits ≡ Some n →
      Escapes (Character n) (letter ∷ 123 ∷ digits ++ 125 ∷ rest) rest
  -- `\b`, with no brace after it.
  boundary : (rest : Text) → NotBegins 123 rest → Escapes (Boundary false) (98 ∷ rest) rest
  -- `\pX`, `\p{name}`.
  property : (negated : Bool) (c : ℕ) (rest : Text) (set : Set) → c ≢ 123 → plain_property (c ∷ []) ≡ Some set →
      Escapes (Property set negated) (property_letter negated ∷ c ∷ rest) rest
  named_property : (negated : Bool) (name rest : Text) (set : Set) → Lacks 125 name → plain_property name ≡ Some set →
      Escapes (Property set negated) (property_letter negated ∷ 123 ∷ name ++ 125 ∷ rest) rest

-- ---- tokens.

-- The text begins with the token, and the rest follows it. A `?` right after an operator belongs to
-- the operator.
pub data Takes : Token → Text → Text → Type 0 where
  bare : (c : ℕ) (rest : Text) → is_meta c ≡ false → Takes (atom (Character c)) (c ∷ rest) rest
  escaped : (a : Atom) (text rest : Text) → Escapes a text rest → Takes (atom a) (92 ∷ text) rest
  dot : (rest : Text) → Takes (atom Dot) (46 ∷ rest) rest
  caret : (rest : Text) → Takes (atom Caret) (94 ∷ rest) rest
  dollar : (rest : Text) → Takes (atom Dollar) (36 ∷ rest) rest
  branch : (rest : Text) → Takes bar (124 ∷ rest) rest
  -- `(`, `(?<name>`, `(?P<name>`.
  open_capture : (rest : Text) → NotBegins 63 rest → Takes (opens capturing) (40 ∷ rest) rest
  open_named : (name rest : Text) → Lacks 62 name → is_name name ≡ true → Takes (opens (named name)) (40 ∷ 63 ∷ 60 ∷ name ++ 62 ∷ rest) rest
  open_python : (name rest : Text) → Lacks 62 name → is_name name ≡ true → Takes (opens (named name)) (40 ∷ 63 ∷ 80 ∷ 60 ∷ name ++ 62 ∷ rest) rest
  -- `(?:`, `(?flags:`, `(?flags)`.
  open_plain : (rest : Text) → Takes (opens (plain no_change)) (40 ∷ 63 ∷ 58 ∷ rest) rest
  open_flags : (letters rest : Text) (change : Change) → Settings letters change → Takes (opens (plain change)) (40 ∷ 63 ∷ letters ++ 58 ∷ rest) rest
  setting : (letters rest : Text) (change : Change) → Settings letters change → Takes (sets change) (40 ∷ 63 ∷ letters ++ 41 ∷ rest) rest
  close_group : (rest : Text) → Takes closes (41 ∷ rest) rest
  greedy : (s rest : Text) (least : ℕ) (most : Option ℕ) → Counts s least most → NotBegins 63 rest → Takes (repeats (record { least = least; most = most; lazy = false })) (s ++ rest) rest
  lazy : (s rest : Text) (least : ℕ) (most : Option ℕ) → Counts s least most → Takes (repeats (record { least = least; most = most; lazy = true })) (s ++ 63 ∷ rest) rest
