-- The printed text of a type: its tokens, separated by one space. `<`, `>` and `&` are lexemes of
-- their own; each of `::`, `->` and a lifetime is one lexeme.
use Rattle.std.specs.Prelude.{ℕ, List, [], ◌∷◌, ◌++◌, codes, fold, if◌then◌else◌, Some, None}
use Rattle.std.specs.Char.{encode_utf8}
use Rattle.logos_token.specs.Printing.{Part, spaced, opening_text, closing_text, gap_after, is_line_comment, print_part}
use Rattle.logos_type.specs.Parts.{Sign, word, mark, colons, arrow, value, opening, closing, reference, lifetime, other_lifetime, spaced_mark, comment, Tree, sign, name, whole, still, Trees, none, also}

-- `'` and the name after it.
abbrev pub lifetime_parts : List ℕ → List Part
lifetime_parts text = (record { text = codes "'"; gap = [] }) ∷ spaced text ∷ []

-- The lexemes of a token.
abbrev pub sign_parts : Sign → List Part
sign_parts (word text) = spaced text ∷ []
sign_parts (mark character) = spaced (encode_utf8 character) ∷ []
sign_parts colons = spaced (codes "::") ∷ []
sign_parts arrow = spaced (codes "->") ∷ []
sign_parts (value text) = spaced text ∷ []
sign_parts (opening delimiter) = spaced (opening_text delimiter) ∷ []
sign_parts (closing delimiter) = spaced (closing_text delimiter) ∷ []
sign_parts (reference (Some text)) = spaced (codes "&") ∷ lifetime_parts text
sign_parts (reference None) = spaced (codes "&") ∷ []
sign_parts (lifetime text) = lifetime_parts text
sign_parts (other_lifetime text) = lifetime_parts text
sign_parts (spaced_mark character spacing) = (record { text = encode_utf8 character; gap = gap_after spacing }) ∷ []
sign_parts (comment text) = (record { text = text; gap = if is_line_comment text then 10 ∷ [] else codes " " }) ∷ []

abbrev mutual
  -- The lexemes of a type.
  pub type_parts : Tree → List Part
  type_parts (sign s) = sign_parts s
  type_parts (name text) = spaced text ∷ []
  type_parts (whole parts) = all_parts parts
  type_parts (still parts) = all_parts parts

  pub all_parts : Trees → List Part
  all_parts none = []
  all_parts (also part parts) = type_parts part ++ all_parts parts

-- The text of a type.
abbrev pub printed_type : Tree → List ℕ
printed_type tree = (fold print_part (record { text = []; gap = [] }) (type_parts tree)).text
