-- The tokens of an enum's parts that stripping keeps. Each token of a part is listed as itself, or
-- as `None` if it is removed.
use Rattle.std.specs.Prelude.{◌==◌, ◌&&◌, ◌||◌, not, if◌then◌else◌, Bool, true, false, List, [], ◌∷◌, ◌++◌, Option, Some, None, codes}
use Rattle.std.specs.Str.{bytes_eq}
use Rattle.std.specs.List.{flat_map}
use Rattle.logos_lexeme.specs.declared.lexeme.Delimiter.TheVariants.{Parenthesis, Bracket}
use Rattle.logos_token.specs.Tokens.{Token, TokenList, identifier, punctuation, doc, group, none, also, append}
use Rattle.logos_enum.specs.Marks.{hash, equals, begins_with}
use Rattle.logos_strip.specs.Helpers.{is_comma, is_helper_path, is_macro_entry}
use Rattle.logos_strip.specs.Stripping.{left}

-- All tokens stay.
abbrev pub stay : TokenList → List (Option Token)
stay none = []
stay (also token rest) = Some token ∷ stay rest

-- All tokens are removed.
abbrev pub go_away : TokenList → List (Option Token)
go_away none = []
go_away (also token rest) = None ∷ go_away rest

-- An entry of a `derive`, and the comma after it, if there is one.
pub record Entry : Type 0 where
  pub tokens : TokenList
  pub comma : TokenList

-- The entries with one more token in the first of them.
abbrev pub with_first : Token → List Entry → List Entry
with_first token [] = record { tokens = also token none; comma = none } ∷ []
with_first token (entry ∷ entries) = record { tokens = also token entry.tokens; comma = entry.comma } ∷ entries

-- The entries of a `derive`, cut at its commas.
abbrev pub entries_of : TokenList → List Entry
entries_of none = []
entries_of (also token rest) =
    if is_comma token then record { tokens = none; comma = also token none } ∷ entries_of rest
    else with_first token (entries_of rest)

-- An entry and its comma: removed if the entry names the macro, otherwise kept.
abbrev pub entry_stays : Entry → List (Option Token)
entry_stays entry =
    let all = append entry.tokens entry.comma in
    if is_macro_entry entry.tokens then go_away all else stay all

-- The entries without those that name the macro.
abbrev pub without_macro : TokenList → TokenList
without_macro entries = left (flat_map entry_stays (entries_of entries))

-- A run without the entries that name the macro, if it begins with a list of entries in
-- parentheses.
abbrev pub list_without_macro : TokenList → TokenList
list_without_macro (also (group Parenthesis span entries) rest) = also (group Parenthesis span (without_macro entries)) rest
list_without_macro run = run

-- The tokens in the brackets of an attribute of an enum. In a `derive`, the entries that name the
-- macro are removed.
abbrev pub derive_without_macro : TokenList → TokenList
derive_without_macro (also (identifier text span) rest) =
    also (identifier text span) (if bytes_eq text (codes "derive") then list_without_macro rest else rest)
derive_without_macro run = run

-- The tokens in the brackets of an attribute of a variant or a field.
abbrev pub unchanged : TokenList → TokenList
unchanged run = run

-- The `#` and the brackets of an attribute, which had these tokens inside. Those of a helper
-- attribute are removed.
abbrev pub brackets_stay : Token → Token → TokenList → List (Option Token)
brackets_stay mark whole inside = if is_helper_path inside then None ∷ None ∷ [] else Some mark ∷ Some whole ∷ []

abbrev mutual
  -- Attributes: the helper attributes are removed, and the brackets of the others are changed by
  -- `change`.
  pub attributes_stay : (TokenList → TokenList) → TokenList → List (Option Token)
  attributes_stay change (also (punctuation character spacing span) rest) = attribute_stays change (punctuation character spacing span) rest
  attributes_stay change (also token rest) = Some token ∷ attributes_stay change rest
  attributes_stay change none = []

  -- The attributes of a run after the `#` of the first one.
  pub attribute_stays : (TokenList → TokenList) → Token → TokenList → List (Option Token)
  attribute_stays change mark (also (group Bracket span inside) rest) =
      brackets_stay mark (group Bracket span (change inside)) inside ++ attributes_stay change rest
  attribute_stays change mark (also token rest) = Some mark ∷ Some token ∷ attributes_stay change rest
  attribute_stays change mark none = Some mark ∷ []

-- ---- Parts of an enum

abbrev mutual
  -- The run consists of attributes: documentation comments, and `#` with brackets.
  pub are_attributes : TokenList → Bool
  are_attributes none = true
  are_attributes (also (doc text span) rest) = are_attributes rest
  are_attributes (also (punctuation character spacing span) rest) = (character == hash) && are_bracketed rest
  are_attributes run = false

  -- The run consists of attributes, after the `#` of the first one.
  pub are_bracketed : TokenList → Bool
  are_bracketed (also (group Bracket span inside) rest) = are_attributes rest
  are_bracketed run = false

-- No attribute begins with this token.
abbrev pub is_plain : Token → Bool
is_plain (punctuation character spacing span) = not (character == hash)
is_plain (doc text span) = false
is_plain token = true

-- No attribute begins in the run, and each comma in it is between two other tokens. `after` is
-- whether a comma precedes the run.
abbrev pub are_plain : Bool → TokenList → Bool
are_plain after none = not after
are_plain after (also token rest) = (is_plain token && not (after && is_comma token)) && are_plain (is_comma token) rest

-- The run has a comma.
abbrev pub has_comma : TokenList → Bool
has_comma none = false
has_comma (also token rest) = is_comma token || has_comma rest

-- The run is empty, or it is the number of a variant, with its `=`.
abbrev pub is_number : TokenList → Bool
is_number none = true
is_number (also token rest) = begins_with equals (also token rest) && not (has_comma rest)

-- The run begins with a word.
abbrev pub begins_word : TokenList → Bool
begins_word (also (identifier text span) rest) = true
begins_word run = false
