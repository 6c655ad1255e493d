-- The tokens that are removed from an enum, determined by their spots. A run is read from the left.
-- The spot of a token determines the part that can begin there: attributes can come before a part,
-- and after a comma attributes can begin again.
use Rattle.std.specs.Prelude.{◌==◌, if◌then◌else◌, Bool, true, false, Option, Some, None, codes}
use Rattle.std.specs.Str.{bytes_eq}
use Rattle.logos_lexeme.specs.declared.lexeme.Delimiter.{Delimiter}
use Rattle.logos_lexeme.specs.declared.lexeme.Delimiter.TheVariants.{Parenthesis, Bracket, Brace}
use Rattle.logos_token.specs.Tokens.{Token, identifier, punctuation, doc, group, TokenList}
use Rattle.logos_enum.specs.Marks.{hash, is_none}
use Rattle.logos_strip.specs.declared.spots.Scope.{Scope}
use Rattle.logos_strip.specs.declared.spots.Scope.TheVariants.{Enum, Attribute, Derives, Variants, Fields}
use Rattle.logos_strip.specs.declared.spots.TokenSpot.{TokenSpot}
use Rattle.logos_strip.specs.declared.spots.TokenSpot.TheVariants.{Open, Hash, Gone, Named, Within}
use Rattle.logos_strip.specs.Helpers.{is_comma, begins_helper, is_macro_entry}

-- A part that is removed begins at the start of the run. An attribute or an entry can begin there.
abbrev pub begins_gone : Scope → TokenList → Bool
begins_gone Enum run = begins_helper run
begins_gone Attribute run = false
begins_gone Derives run = is_macro_entry run
begins_gone Variants run = begins_helper run
begins_gone Fields run = begins_helper run

-- The first token is removed, given its spot.
abbrev pub goes : Scope → TokenSpot → TokenList → Bool
goes scope Open run = begins_gone scope run
goes scope Hash run = false
goes scope Gone run = true
goes scope Named run = false
goes scope Within run = false

-- The spot after a token of a part. Parts are separated by commas, joint or alone. A comma between
-- the angle brackets of a type also counts. No attribute can begin after it, so nothing is removed
-- there.
abbrev pub after_part : TokenSpot → Token → TokenSpot
after_part other token = if is_comma token then Open else other

-- The spot after a token that remains, where an attribute can begin. A documentation comment is an
-- attribute.
abbrev pub after_start : TokenSpot → Token → TokenSpot
after_start other (punctuation character spacing span) = if character == hash then Hash else other
after_start other (doc text span) = Open
after_start other token = other

-- The spot after the token that follows the `#` of an attribute that remains. The attribute ends
-- with its brackets.
abbrev pub after_hash : Token → TokenSpot
after_hash (group delimiter span inside) = Open
after_hash token = Within

-- The spot after a token in a run whose parts can begin with attributes. The `Bool` is whether the
-- token is removed. `first` is the spot after the first token of a part that is not in an
-- attribute.
abbrev pub after_attributed : TokenSpot → TokenSpot → Bool → Token → TokenSpot
after_attributed first Open true token = Gone
after_attributed first Open false token = after_start first token
after_attributed first Hash gone token = after_hash token
after_attributed first Gone gone token = Open
after_attributed first Named gone token = after_part Within token
after_attributed first Within gone token = after_part Within token

-- The spot after a token of an enum, which can begin with attributes.
abbrev pub after_in_enum : TokenSpot → Bool → Token → TokenSpot
after_in_enum Within gone token = Within
after_in_enum spot gone token = after_attributed Within spot gone token

-- The spot after a token in the brackets of an attribute.
abbrev pub after_in_attribute : TokenSpot → Token → TokenSpot
after_in_attribute Open (identifier text span) = if bytes_eq text (codes "derive") then Named else Within
after_in_attribute spot token = Within

-- The spot after a token. The `Bool` is whether the token is removed.
abbrev pub spot_after : Scope → TokenSpot → Bool → Token → TokenSpot
spot_after Enum spot gone token = after_in_enum spot gone token
spot_after Attribute spot gone token = after_in_attribute spot token
spot_after Derives spot gone token = after_part (if gone then Gone else Within) token
spot_after Variants spot gone token = after_attributed Named spot gone token
spot_after Fields spot gone token = after_attributed Within spot gone token

-- The part of an enum that a group contains, if a token in it can be removed: the brackets of an
-- attribute of the enum, the braces that are its last token, the entries in parentheses after
-- `derive`, and the fields after the name of a variant.
abbrev pub scope_of : Scope → TokenSpot → Delimiter → Bool → Option Scope
scope_of Enum Hash Bracket last = Some Attribute
scope_of Enum Within Brace true = Some Variants
scope_of Attribute Named Parenthesis last = Some Derives
scope_of Variants Named delimiter last = Some Fields
scope_of scope spot delimiter last = None

-- The part of an enum that a token contains, given the tokens after it, if a token in it can be
-- removed.
abbrev pub scope_inside : Scope → TokenSpot → Token → TokenList → Option Scope
scope_inside scope spot (group delimiter span inside) rest = scope_of scope spot delimiter (is_none rest)
scope_inside scope spot token rest = None
