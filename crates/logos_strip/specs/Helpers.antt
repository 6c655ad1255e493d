-- The parts of an enum that belong to the derive macro: its helper attributes, and the entries of
-- `derive` that name it.
use Rattle.std.specs.Prelude.{ℕ, ◌==◌, ◌&&◌, ◌||◌, not, Bool, true, false, List, Option, Some, None, codes}
use Rattle.std.specs.Str.{bytes_eq}
use Rattle.logos_lexeme.specs.declared.lexeme.Delimiter.TheVariants.{Bracket}
use Rattle.logos_token.specs.Tokens.{Token, identifier, punctuation, group, TokenList, none, also}
use Rattle.logos_token.specs.First.{colon, begins_with, after_word, after_path_mark}
use Rattle.logos_enum.specs.Marks.{comma, hash}

-- A token is a comma, joint or alone.
abbrev pub is_comma : Token → Bool
is_comma (punctuation character spacing span) = character == comma
is_comma token = false

-- A name is the name of a helper attribute.
abbrev pub is_helper_name : List ℕ → Bool
is_helper_name text = bytes_eq text (codes "logos") || (bytes_eq text (codes "token") || bytes_eq text (codes "regex"))

-- The path of an attribute, at the start of the run, is exactly the name of a helper attribute.
abbrev pub is_helper_path : TokenList → Bool
is_helper_path (also (identifier text span) rest) = is_helper_name text && not (begins_with colon rest)
is_helper_path run = false

-- The run begins with the brackets of a helper attribute.
abbrev pub holds_helper : TokenList → Bool
holds_helper (also (group Bracket span inside) rest) = is_helper_path inside
holds_helper run = false

-- The run begins with a helper attribute.
abbrev pub begins_helper : TokenList → Bool
begins_helper (also (punctuation character spacing span) rest) = (character == hash) && holds_helper rest
begins_helper run = false

-- There are tokens, and the test holds for them.
abbrev pub holds_after : (TokenList → Bool) → Option TokenList → Bool
holds_after test None = false
holds_after test (Some rest) = test rest

-- An entry of `derive` ends at the start of the run.
abbrev pub ends_entry : TokenList → Bool
ends_entry none = true
ends_entry (also token rest) = is_comma token

-- The run begins with the entry `Logos`.
abbrev pub is_macro_name : TokenList → Bool
is_macro_name run = holds_after ends_entry (after_word (codes "Logos") run)

-- The run begins with `::` and the entry `Logos`.
abbrev pub is_macro_segment : TokenList → Bool
is_macro_segment run = holds_after is_macro_name (after_path_mark run)

-- The run begins with the entry `logos::Logos`.
abbrev pub is_macro_path : TokenList → Bool
is_macro_path run = holds_after is_macro_segment (after_word (codes "logos") run)

-- The run begins with the entry `::logos::Logos`.
abbrev pub is_global_path : TokenList → Bool
is_global_path run = holds_after is_macro_path (after_path_mark run)

-- The run begins with an entry that names the derive macro.
abbrev pub is_macro_entry : TokenList → Bool
is_macro_entry run = is_macro_name run || (is_macro_path run || is_global_path run)
