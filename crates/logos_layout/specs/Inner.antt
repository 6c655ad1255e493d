-- The documentation and the attributes of a file itself, as plain comments.
use Rattle.std.specs.Prelude.{◌≡◌, ◌⊎◌, ℕ, ◌==◌, if◌then◌else◌, Bool, false, List, ◌∷◌, ◌++◌, Option, Some, None}
use Rattle.logos_layout.specs.Layout.{ArePrinted}
use Rattle.logos_lexeme.specs.declared.lexeme.Delimiter.TheVariants.{Bracket}
use Rattle.logos_token.specs.Printing.{printed}
use Rattle.logos_token.specs.Spelling.{Spells}
use Rattle.logos_token.specs.Tokens.{TokenList, punctuation, doc, group, none, also}

-- A documentation comment documents the item around it: its third byte is `!`.
abbrev pub is_inner : List ℕ → Bool
is_inner (first ∷ second ∷ third ∷ rest) = third == 33
is_inner text = false

-- The tokens after brackets, if the run begins with them.
abbrev pub after_brackets : TokenList → Option TokenList
after_brackets (also (group Bracket span inside) rest) = Some rest
after_brackets run = None

-- The tokens after `!` and brackets, if the run begins with them.
abbrev pub after_mark : TokenList → Option TokenList
after_mark (also (punctuation character spacing span) rest) = if character == 33 then after_brackets rest else None
after_mark run = None

-- The tokens after the first documentation comment or attribute, if it is an inner one: `//! ..`,
-- `/*! .. */` or `#![..]`.
abbrev pub after_inner : TokenList → Option TokenList
after_inner (also (doc text span) rest) = if is_inner text then Some rest else None
after_inner (also (punctuation character spacing span) rest) = if character == 35 then after_mark rest else None
after_inner run = None

-- The second run is the first one without some of its leading inner documentation comments and
-- attributes.
pub data FollowsInner (run : TokenList) : TokenList → Type 0 where
  begun : FollowsInner run run
  next : {rest after : TokenList} → FollowsInner run rest → after_inner rest ≡ Some after → FollowsInner run after

-- A text spells only inner documentation comments and attributes.
pub record IsInnerText (text : List ℕ) : Type 0 where
  pub tokens : TokenList
  pub spelled : Spells text tokens
  pub are : FollowsInner tokens none

-- The second text is the first one, except that a prefix that spells only inner documentation
-- comments and attributes is replaced by one that spells nothing. The tokens of the second text
-- print as those after the prefix in the first one.
pub record IsPlainly (text made : List ℕ) : Type 0 where
  pub front : List ℕ
  pub plain : List ℕ
  pub rest : List ℕ
  pub text_is : text ≡ front ++ rest
  pub made_is : made ≡ plain ++ rest
  pub inner : IsInnerText front
  pub bare : Spells plain none
  pub tokens : TokenList
  pub after : TokenList
  pub spelled : Spells text tokens
  pub follows : FollowsInner tokens after
  pub again : ArePrinted made (printed after)

-- The second text is the first one with its inner documentation and attributes as plain comments,
-- or the first one unchanged.
abbrev pub IsWithoutInner : List ℕ → List ℕ → Type 0
IsWithoutInner text made = IsPlainly text made ⊎ (made ≡ text)
