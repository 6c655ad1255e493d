-- The meaning of a bracket: a set of characters, or of bytes.
use Rattle.std.specs.Prelude.{◌≡◌, ℕ, ◌+◌, max, Bool, true, false, ◌||◌, ◌&&◌, ◌==◌, nat_lt, List, [], ◌∷◌, if◌then◌else◌}
use Rattle.logos_pattern_tokens.specs.declared.token.Flags.{Flags}
use Rattle.logos_pattern_tokens.specs.declared.bracket.token.Symbol.{Symbol}
use Rattle.logos_pattern_tokens.specs.declared.bracket.token.Symbol.TheVariants.{Character, Byte}
use Rattle.logos_pattern_tokens.specs.declared.bracket.token.BracketItem.{BracketItem}
use Rattle.logos_pattern_tokens.specs.declared.bracket.token.BracketItem.TheVariants as items
use Rattle.logos_pattern_tokens.specs.declared.bracket.token.Lead.{Lead}
use Rattle.logos_pattern_tokens.specs.declared.bracket.token.Lead.TheVariants.{Dashes, Bracket as LoneBracket}
use Rattle.logos_pattern_tokens.specs.declared.bracket.token.BracketToken.{BracketToken}
use Rattle.logos_pattern_tokens.specs.declared.bracket.token.BracketToken.TheVariants as tokens
use Rattle.unicode.specs.Sets.{in_set}
use Rattle.logos_hir.specs.Sets.{Set, only_chars, union, complement, in_range}
use Rattle.logos_hir.specs.Operands.{combination}
use Rattle.logos_hir.specs.Property.{ascii_set, perl_set}
use Rattle.logos_hir.specs.Fold.{fold_case, fold_ascii}
use Rattle.logos_pattern_tokens.specs.bracket.Form.{Bracket, bracket, Operands, lone, joined, Members, nobody, member, nested}
use Rattle.logos_pattern_tokens.specs.bracket.Spelling.{code_of, bracket_tokens}

-- The last character, or the last byte.
abbrev pub last_of : Flags → ℕ
last_of flags = if flags.unicode then 0x10FFFF else 255

-- The set, with the other cases of all members if `i` is on.
abbrev pub case_closure : Flags → Set → Set
case_closure flags set = if flags.ignore_case then (if flags.unicode then fold_case set else fold_ascii set) else set

-- The set, or its complement if `negated` holds.
abbrev pub set_or_complement : Flags → Bool → Set → Set
set_or_complement flags negated set = if negated then complement (last_of flags) set else set

-- The set of an element, without its negation and as if `i` were off.
abbrev pub item_test : Flags → BracketItem → Set
item_test flags (items.One s) = λ c. c == code_of s
item_test flags (items.Range a b) = in_range (code_of a, code_of b)
item_test flags (items.Perl kind negated) = perl_set kind flags.unicode
item_test flags (items.Property set negated) = in_set set
item_test flags (items.Ascii kind negated) = ascii_set kind

-- The element is negated.
abbrev pub is_negated : BracketItem → Bool
is_negated (items.One s) = false
is_negated (items.Range a b) = false
is_negated (items.Perl kind negated) = negated
is_negated (items.Property set negated) = negated
is_negated (items.Ascii kind negated) = negated

-- The set of an element.
abbrev pub item_set : Flags → BracketItem → Set
item_set flags item = set_or_complement flags (is_negated item) (case_closure flags (only_chars (item_test flags item)))

-- The set of the literals at the front of a bracket, which have no other case.
abbrev pub lead_set : Lead → Set
lead_set (Dashes n) = λ c. nat_lt 0 n && (c == 45)
lead_set LoneBracket = λ c. c == 93

abbrev mutual
  pub bracket_set : Flags → Bracket → Set
  bracket_set flags (bracket negated lead inside) = set_or_complement flags negated (operands_set flags lead inside)

  -- The set of operands with operators between them, which are applied from the left.
  pub operands_set : Flags → Lead → Operands → Set
  operands_set flags lead (lone ms) = members_set flags (lead_set lead) ms
  operands_set flags lead (joined os op ms) = combination op (operands_set flags lead os) (members_set flags (λ c. false) ms)

  -- The set of the elements of an operand, together with the set before them.
  pub members_set : Flags → Set → Members → Set
  members_set flags before nobody = before
  members_set flags before (member ms item) = union (members_set flags before ms) (item_set flags item)
  members_set flags before (nested ms b) = union (members_set flags before ms) (bracket_set flags b)

-- ---- the elements that the flags allow.

-- Whether the flags allow the symbol. If the pattern matches bytes, a character must be ASCII.
abbrev pub symbol_fits : Flags → Symbol → Bool
symbol_fits flags (Character c) = flags.unicode || nat_lt c 128
symbol_fits flags (Byte b) = true

-- Whether the flags allow the element. If the pattern matches bytes, its characters must be ASCII,
-- and it must not be a property.
abbrev pub item_fits : Flags → BracketItem → Bool
item_fits flags (items.One s) = symbol_fits flags s
item_fits flags (items.Range a b) = symbol_fits flags a && symbol_fits flags b
item_fits flags (items.Perl kind negated) = true
item_fits flags (items.Property set negated) = flags.unicode
item_fits flags (items.Ascii kind negated) = true

-- The flags allow each of the tokens.
abbrev pub TokensFit : Flags → List BracketToken → Type 0
TokensFit flags [] = Unit {0}
TokensFit flags (tokens.Item item ∷ others) = (item_fits flags item ≡ true) × TokensFit flags others
TokensFit flags (tokens.Open negated lead ∷ others) = TokensFit flags others
TokensFit flags (tokens.Operator op ∷ others) = TokensFit flags others
TokensFit flags (tokens.Close ∷ others) = TokensFit flags others

-- The flags allow the bracket.
abbrev pub BracketFits : Flags → Bracket → Type 0
BracketFits flags b = TokensFit flags (bracket_tokens b)

-- ---- the nesting depth of brackets.

abbrev mutual
  pub bracket_depth : Bracket → ℕ
  bracket_depth (bracket negated lead inside) = operands_depth inside + 1

  pub operands_depth : Operands → ℕ
  operands_depth (lone ms) = members_depth ms
  operands_depth (joined os op ms) = max (operands_depth os) (members_depth ms)

  pub members_depth : Members → ℕ
  members_depth nobody = 0
  members_depth (member ms item) = members_depth ms
  members_depth (nested ms b) = max (members_depth ms) (bracket_depth b)
