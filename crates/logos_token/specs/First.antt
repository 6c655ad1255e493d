-- The first tokens of a run.
use Rattle.std.specs.Prelude.{ℕ, ◌==◌, if◌then◌else◌, Bool, false, List, Option, Some, None}
use Rattle.std.specs.Str.{bytes_eq}
use Rattle.logos_lexeme.specs.declared.lexeme.Spacing.{Spacing}
use Rattle.logos_lexeme.specs.declared.lexeme.Spacing.TheVariants.{Alone, Joint}
use Rattle.logos_token.specs.Tokens.{TokenList, identifier, punctuation, also}

-- The character `:`.
abbrev pub colon : ℕ
colon = 58

-- Whether the run begins with this punctuation, joint or alone.
abbrev pub begins_with : ℕ → TokenList → Bool
begins_with mark (also (punctuation character spacing span) rest) = character == mark
begins_with mark run = false

-- The tokens after a word, if the run begins with the word.
abbrev pub after_word : List ℕ → TokenList → Option TokenList
after_word word (also (identifier text span) rest) = if bytes_eq text word then Some rest else None
after_word word run = None

-- Whether punctuation is the first `:` of `::`, given its spacing.
abbrev pub is_path_mark : ℕ → Spacing → Bool
is_path_mark character Joint = character == colon
is_path_mark character Alone = false

-- The tokens after `:`, if the run begins with it.
abbrev pub after_colon : TokenList → Option TokenList
after_colon (also (punctuation character spacing span) rest) = if character == colon then Some rest else None
after_colon run = None

-- The tokens after `::`, if the run begins with it.
abbrev pub after_path_mark : TokenList → Option TokenList
after_path_mark (also (punctuation character spacing span) rest) = if is_path_mark character spacing then after_colon rest else None
after_path_mark run = None
