-- The spelling of brackets.
use Rattle.std.specs.Prelude.{◌≡◌, ◌≢◌, ℕ, ◌≤◌, Bool, true, false, not, ◌&&◌, ◌||◌, ◌==◌, List, [], ◌∷◌, ◌++◌, replicate, Some, if◌then◌else◌}
use Rattle.unicode.specs.declared.sets.Set.{Set}
use Rattle.logos_hir.specs.declared.property.AsciiKind.{AsciiKind}
use Rattle.logos_hir.specs.declared.property.PerlKind.{PerlKind}
use Rattle.logos_pattern_tokens.specs.declared.token.Atom.TheVariants as atoms
use Rattle.logos_pattern_tokens.specs.declared.bracket.token.Symbol.{Symbol}
use Rattle.logos_pattern_tokens.specs.declared.bracket.token.Symbol.TheVariants.{Character, Byte}
use Rattle.logos_pattern_tokens.specs.declared.bracket.token.BracketItem.TheVariants as items
use Rattle.logos_hir.specs.declared.sets.operands.SetOperator.{SetOperator}
use Rattle.logos_hir.specs.declared.sets.operands.SetOperator.TheVariants.{Intersection, Difference, SymmetricDifference}
use Rattle.logos_pattern_tokens.specs.declared.bracket.token.Lead.{Lead}
use Rattle.logos_pattern_tokens.specs.declared.bracket.token.Lead.TheVariants.{Dashes, Bracket as LoneBracket}
use Rattle.logos_pattern_tokens.specs.declared.bracket.token.BracketToken.{BracketToken}
use Rattle.logos_pattern_tokens.specs.declared.bracket.token.BracketToken.TheVariants as tokens
use Rattle.logos_pattern_tokens.specs.bracket.Form.{Bracket, bracket, Operands, lone, joined, Members, nobody, member, nested}
use Rattle.logos_pattern_tokens.specs.Token.{Text}
use Rattle.logos_pattern_tokens.specs.Spelling.{NotBegins, Lacks, Escapes}
use Rattle.logos_hir.specs.Property.{ascii_named}

-- ---- the tokens of a bracket.

abbrev mutual
  pub bracket_tokens : Bracket → List BracketToken
  bracket_tokens (bracket negated lead inside) = tokens.Open negated lead ∷ operands_tokens inside ++ tokens.Close ∷ []

  pub operands_tokens : Operands → List BracketToken
  operands_tokens (lone ms) = members_tokens ms
  operands_tokens (joined os op ms) = operands_tokens os ++ tokens.Operator op ∷ members_tokens ms

  pub members_tokens : Members → List BracketToken
  members_tokens nobody = []
  members_tokens (member ms item) = members_tokens ms ++ tokens.Item item ∷ []
  members_tokens (nested ms b) = members_tokens ms ++ bracket_tokens b

-- ---- characters.

-- The number of a character or of a byte.
abbrev pub code_of : Symbol → ℕ
code_of (Character c) = c
code_of (Byte b) = b

-- The text begins with a character or an escape of one, and the rest follows it.
pub data Symbols : Symbol → Text → Text → Type 0 where
  plain : (c : ℕ) (rest : Text) → c ≢ 92 → Symbols (Character c) (c ∷ rest) rest
  escaped : (c : ℕ) (text rest : Text) → Escapes (atoms.Character c) text rest → Symbols (Character c) (92 ∷ text) rest
  escaped_byte : (b : ℕ) (text rest : Text) → Escapes (atoms.Byte b) text rest → Symbols (Byte b) (92 ∷ text) rest

-- The character that is written twice as the operator: `&&`, `--` or `~~`.
abbrev pub operator_letter : SetOperator → ℕ
operator_letter Intersection = 38
operator_letter Difference = 45
operator_letter SymmetricDifference = 126

-- The character and the text after it begin with an operator: `&&`, `--` or `~~`.
abbrev pub begins_operator : ℕ → Text → Bool
begins_operator c [] = false
begins_operator c (d ∷ rest) = (c == d) && ((c == 38) || ((c == 45) || (c == 126)))

-- The text does not begin with an operator, `[` or `]`, so that it begins with an element.
abbrev pub begins_item : Text → Bool
begins_item [] = false
begins_item (c ∷ rest) = not ((c == 91) || ((c == 93) || begins_operator c rest))

-- The text continues a range: with a `-` that is followed by neither `]` nor another `-`.
abbrev pub begins_range : Text → Bool
begins_range [] = false
begins_range (c ∷ []) = false
begins_range (c ∷ d ∷ rest) = (c == 45) && not ((d == 93) || (d == 45))

-- ---- classes of ASCII characters.

-- `:name:]`, or `:^name:]` for the complement.
abbrev pub class_text : Text → Bool → Text
class_text name negated = 58 ∷ (if negated then 94 ∷ [] else []) ++ name ++ 58 ∷ 93 ∷ []

-- The name of a class. No such name contains a `:`.
abbrev pub IsClass : Text → AsciiKind → Type 0
IsClass name kind = Lacks 58 name × (ascii_named name ≡ Some kind)

-- The text, which comes after `[`, does not begin with a class of ASCII characters.
abbrev pub NoClass : Text → Type 0
NoClass text = (name : Text) (kind : AsciiKind) (negated : Bool) (rest : Text) → IsClass name kind → text ≢ class_text name negated ++ rest

-- ---- openings.

-- Any number of `-`, or one `]`, comes before the rest.
pub data Leads : Lead → Text → Text → Type 0 where
  dashes : (n : ℕ) (rest : Text) → NotBegins 45 rest → (n ≡ 0 → NotBegins 93 rest) → Leads (Dashes n) (replicate n 45 ++ rest) rest
  one_bracket : (rest : Text) → Leads LoneBracket (93 ∷ rest) rest

-- After `[` comes `^` if the bracket is negated, and then the literals.
pub data Opens : Bool → Lead → Text → Text → Type 0 where
  positive : (lead : Lead) (text rest : Text) → NotBegins 94 text → Leads lead text rest → Opens false lead text rest
  negative : (lead : Lead) (text rest : Text) → Leads lead text rest → Opens true lead (94 ∷ text) rest

-- ---- tokens.

-- The text, which is inside brackets, begins with the token, and the rest follows it.
pub data BracketTakes : BracketToken → Text → Text → Type 0 where
  closes : (rest : Text) → BracketTakes tokens.Close (93 ∷ rest) rest
  operator : (op : SetOperator) (rest : Text) → BracketTakes (tokens.Operator op) (operator_letter op ∷ operator_letter op ∷ rest) rest
  class : (name : Text) (kind : AsciiKind) (negated : Bool) (rest : Text) → IsClass name kind → BracketTakes (tokens.Item (items.Ascii kind negated)) (91 ∷ class_text name negated ++ rest) rest
  opens : (negated : Bool) (lead : Lead) (text rest : Text) → NoClass text → Opens negated lead text rest → BracketTakes (tokens.Open negated lead) (91 ∷ text) rest
  one : (s : Symbol) (text rest : Text) → begins_item text ≡ true → Symbols s text rest → begins_range rest ≡ false → BracketTakes (tokens.Item (items.One s)) text rest
  range : (a b : Symbol) (text after rest : Text) → begins_item text ≡ true → Symbols a text (45 ∷ after) → begins_range (45 ∷ after) ≡ true → Symbols b after rest →
      code_of a ≤ code_of b → BracketTakes (tokens.Item (items.Range a b)) text rest
  perl : (kind : PerlKind) (negated : Bool) (text rest : Text) → Escapes (atoms.Perl kind negated) text rest → begins_range rest ≡ false →
      BracketTakes (tokens.Item (items.Perl kind negated)) (92 ∷ text) rest
  property : (set : Set) (negated : Bool) (text rest : Text) → Escapes (atoms.Property set negated) text rest → begins_range rest ≡ false →
      BracketTakes (tokens.Item (items.Property set negated)) (92 ∷ text) rest

-- The text is these tokens followed by the rest.
abbrev pub BracketCuts : Text → List BracketToken → Text → Type 0
BracketCuts text [] rest = text ≡ rest
BracketCuts text (token ∷ others) rest = (after : Text) × BracketTakes token text after × BracketCuts after others rest

-- The text, which comes after `[`, is the rest of the bracket followed by `rest`.
abbrev pub Encloses : Bracket → Text → Text → Type 0
Encloses (bracket negated lead inside) text rest = (after : Text) × Opens negated lead text after × BracketCuts after (operands_tokens inside ++ tokens.Close ∷ []) rest
