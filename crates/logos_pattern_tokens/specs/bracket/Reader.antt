-- The tokens inside brackets, read from the front.
use Rattle.std.specs.Prelude.{ℕ, ◌+◌, Bool, true, false, nat_le, ◌==◌, [], ◌∷◌, drop, Option, Some, None, option_map, unwrap_or, if◌then◌else◌}
use Rattle.logos_pattern_tokens.specs.declared.token.Atom.{Atom}
use Rattle.logos_pattern_tokens.specs.declared.token.Atom.TheVariants as atoms
use Rattle.logos_pattern_tokens.specs.declared.bracket.token.Symbol.{Symbol}
use Rattle.logos_pattern_tokens.specs.declared.bracket.token.Symbol.TheVariants.{Character, Byte}
use Rattle.logos_pattern_tokens.specs.declared.bracket.token.BracketItem.{BracketItem}
use Rattle.logos_pattern_tokens.specs.declared.bracket.token.BracketItem.TheVariants as items
use Rattle.logos_hir.specs.declared.sets.operands.SetOperator.{SetOperator}
use Rattle.logos_hir.specs.declared.sets.operands.SetOperator.TheVariants.{Intersection, Difference, SymmetricDifference}
use Rattle.logos_pattern_tokens.specs.declared.bracket.token.Lead.{Lead}
use Rattle.logos_pattern_tokens.specs.declared.bracket.token.Lead.TheVariants.{Dashes, Bracket as LoneBracket}
use Rattle.logos_pattern_tokens.specs.declared.bracket.token.BracketToken.{BracketToken}
use Rattle.logos_pattern_tokens.specs.declared.bracket.token.BracketToken.TheVariants as tokens
use Rattle.logos_hir.specs.Property.{ascii_named}
use Rattle.logos_pattern_tokens.specs.Token.{Text, ◌>>=◌, cut_at}
use Rattle.logos_pattern_tokens.specs.Escapes.{begins, escape_at}
use Rattle.logos_pattern_tokens.specs.bracket.Spelling.{code_of, begins_operator, begins_range}

-- ---- elements.

-- The character or the byte of an escape, if it is one.
abbrev pub symbol_of : Atom → Option Symbol
symbol_of (atoms.Character c) = Some (Character c)
symbol_of (atoms.Byte b) = Some (Byte b)
symbol_of _ = None

-- The end of a range, from the text after its `-`.
unfoldable pub last_at : Text → Option (Symbol × Text)
last_at [] = None
last_at (c ∷ rest) =
    if c == 92 then escape_at rest >>= (λ x. option_map (λ s. (s, x.1)) (symbol_of x.0))
    else Some (Character c, rest)

-- The range from one character to another, unless it ends before it begins, and the rest of the
-- text.
unfoldable pub range_token : Symbol → Symbol × Text → Option (BracketToken × Text)
range_token a x = if nat_le (code_of a) (code_of x.0) then Some (tokens.Item (items.Range a x.0), x.1) else None

-- A character, or the range that begins with it.
unfoldable pub range_at : Symbol → Text → Option (BracketToken × Text)
range_at a rest = if begins_range rest then last_at (drop 1 rest) >>= range_token a else Some (tokens.Item (items.One a), rest)

-- A class, which cannot begin a range.
unfoldable pub lone_at : BracketItem → Text → Option (BracketToken × Text)
lone_at item rest = if begins_range rest then None else Some (tokens.Item item, rest)

-- The element that begins with an escape, and the text after it.
unfoldable pub escape_item : Atom → Text → Option (BracketToken × Text)
escape_item (atoms.Character c) rest = range_at (Character c) rest
escape_item (atoms.Byte b) rest = range_at (Byte b) rest
escape_item (atoms.Perl kind negated) rest = lone_at (items.Perl kind negated) rest
escape_item (atoms.Property set negated) rest = lone_at (items.Property set negated) rest
escape_item _ rest = None

-- The element at the front of a text, and the text after it.
unfoldable pub item_at : Text → Option (BracketToken × Text)
item_at [] = None
item_at (c ∷ rest) = if c == 92 then escape_at rest >>= (λ x. escape_item x.0 x.1) else range_at (Character c) rest

-- ---- openings.

-- The number of dashes at the front, added to a count.
abbrev pub dashes_from : ℕ → Text → ℕ × Text
dashes_from n [] = (n, [])
dashes_from n (c ∷ rest) = if c == 45 then dashes_from (n + 1) rest else (n, c ∷ rest)

-- The literals at the front of a text, and the text after them.
unfoldable pub lead_at : Text → Lead × Text
lead_at [] = (Dashes 0, [])
lead_at (c ∷ rest) = if c == 93 then (LoneBracket, rest) else (Dashes (dashes_from 0 (c ∷ rest)).0, (dashes_from 0 (c ∷ rest)).1)

-- Whether a bracket is negated, its leading literals and the rest, from the text after `[`.
unfoldable pub open_at : Text → Bool × Lead × Text
open_at text =
    if begins 94 text then (true, (lead_at (drop 1 text)).0, (lead_at (drop 1 text)).1)
    else (false, (lead_at text).0, (lead_at text).1)

-- ---- classes of ASCII characters.

-- The class that ends with the `]` at the front, after `[:name:`.
unfoldable pub class_end : Bool → Text → Text → Option (BracketToken × Text)
class_end negated name [] = None
class_end negated name (c ∷ rest) = if c == 93 then option_map (λ kind. (tokens.Item (items.Ascii kind negated), rest)) (ascii_named name) else None

-- The class of the text `name:]`, after `[:` or `[:^`.
unfoldable pub name_end : Bool → Text → Option (BracketToken × Text)
name_end negated text = cut_at 58 text >>= (λ x. class_end negated x.0 x.1)

-- The class of the text after `[:`.
unfoldable pub colon_at : Text → Option (BracketToken × Text)
colon_at [] = None
colon_at (c ∷ rest) = if c == 94 then name_end true rest else name_end false (c ∷ rest)

-- The class of ASCII characters, from the text after `[`.
unfoldable pub class_at : Text → Option (BracketToken × Text)
class_at [] = None
class_at (c ∷ rest) = if c == 58 then colon_at rest else None

-- ---- tokens.

-- A class of ASCII characters, or the start of a nested bracket, from the text after `[`.
unfoldable pub inner_at : Text → BracketToken × Text
inner_at text = unwrap_or (class_at text) (tokens.Open (open_at text).0 (open_at text).1, (open_at text).2)

-- The operator that is written as this character twice.
abbrev pub operator_of : ℕ → SetOperator
operator_of c = if c == 38 then Intersection else if c == 45 then Difference else SymmetricDifference

-- The token at the front of a text inside brackets, and the text after it.
unfoldable pub bracket_token_at : Text → Option (BracketToken × Text)
bracket_token_at [] = None
bracket_token_at (c ∷ rest) =
    if c == 93 then Some (tokens.Close, rest)
    else if c == 91 then Some (inner_at rest)
    else if begins_operator c rest then Some (tokens.Operator (operator_of c), drop 1 rest)
    else item_at (c ∷ rest)
