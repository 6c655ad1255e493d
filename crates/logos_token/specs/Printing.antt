-- The printed text of tokens: their lexemes, separated by one space, without a space after joint
-- punctuation, and with LF after a line comment.
use Rattle.std.specs.Prelude.{ℕ, Bool, false, ◌==◌, List, [], ◌∷◌, ◌++◌, codes, fold, if◌then◌else◌}
use Rattle.std.specs.Char.{encode_utf8}
use Rattle.logos_lexeme.specs.declared.lexeme.Spacing.{Spacing}
use Rattle.logos_lexeme.specs.declared.lexeme.Spacing.TheVariants.{Alone, Joint}
use Rattle.logos_lexeme.specs.declared.lexeme.Delimiter.{Delimiter}
use Rattle.logos_lexeme.specs.declared.lexeme.Delimiter.TheVariants.{Parenthesis, Bracket, Brace}
use Rattle.logos_token.specs.Tokens.{Token, identifier, punctuation, literal, doc, group, TokenList, none, also}

-- The text of a lexeme, and the gap before the next one.
pub record Part : Type 0 where
  pub text : List ℕ
  pub gap : List ℕ

-- The text of an opening delimiter.
abbrev pub opening_text : Delimiter → List ℕ
opening_text Parenthesis = codes "("
opening_text Bracket = codes "["
opening_text Brace = codes "{"

-- The text of a closing delimiter.
abbrev pub closing_text : Delimiter → List ℕ
closing_text Parenthesis = codes ")"
closing_text Bracket = codes "]"
closing_text Brace = codes "}"

-- The gap after punctuation.
abbrev pub gap_after : Spacing → List ℕ
gap_after Alone = codes " "
gap_after Joint = []

-- Whether a comment ends with its line: it begins with two slashes.
abbrev pub is_line_comment : List ℕ → Bool
is_line_comment [] = false
is_line_comment (first ∷ []) = false
is_line_comment (first ∷ second ∷ rest) = second == 47

-- A lexeme with this text, and a space after it.
abbrev pub spaced : List ℕ → Part
spaced text = record { text = text; gap = codes " " }

abbrev mutual
  -- The lexemes of a token, with their gaps.
  pub token_parts : Token → List Part
  token_parts (identifier text span) = spaced text ∷ []
  token_parts (punctuation character spacing span) = (record { text = encode_utf8 character; gap = gap_after spacing }) ∷ []
  token_parts (literal text span) = spaced text ∷ []
  token_parts (doc text span) = (record { text = text; gap = if is_line_comment text then 10 ∷ [] else codes " " }) ∷ []
  token_parts (group delimiter span inside) = spaced (opening_text delimiter) ∷ (run_parts inside ++ spaced (closing_text delimiter) ∷ [])

  -- The lexemes of a run, with their gaps.
  pub run_parts : TokenList → List Part
  run_parts none = []
  run_parts (also token rest) = token_parts token ++ run_parts rest

-- The text printed so far, and the gap before the next lexeme.
pub record Printed : Type 0 where
  pub text : List ℕ
  pub gap : List ℕ

-- The text after one more lexeme is printed, with the gap before it.
abbrev pub print_part : Printed → Part → Printed
print_part printed part = record { text = (printed.text ++ printed.gap) ++ part.text; gap = part.gap }

-- The text of a run.
abbrev pub printed : TokenList → List ℕ
printed tokens = (fold print_part (record { text = []; gap = [] }) (run_parts tokens)).text
