-- The text after an opening parenthesis, read from the front.
use Rattle.std.specs.Prelude.{ℕ, Bool, true, false, ◌||◌, ◌&&◌, ◌==◌, [], ◌∷◌, Option, Some, None, option_map, if◌then◌else◌}
use Rattle.std.specs.List.{list_all}
use Rattle.unicode.specs.Binary.{is_alphabetic}
use Rattle.unicode.specs.GeneralCategory.{general_category}
use Rattle.unicode.specs.GeneralCategoryGroup.{in_group}
use Rattle.unicode.specs.declared.properties.GeneralCategoryGroup.TheVariants.{Number}
use Rattle.logos_pattern_tokens.specs.declared.openings.Letters.{Letters}
use Rattle.logos_pattern_tokens.specs.Flags.{no_change, with_letter}
use Rattle.logos_pattern_tokens.specs.Token.{Text, Token, opens, sets, capturing, named, plain, ◌>>=◌, is_among, cut_at}

-- A character with which a group's name can start: `_`, or an alphabetic character.
abbrev pub is_name_start : ℕ → Bool
is_name_start c = c == 95 || is_alphabetic c

-- A character that a group's name can have after its first one: one with which a name can start, a
-- number, `.`, `[` or `]`.
abbrev pub is_name_part : ℕ → Bool
is_name_part c = is_name_start c || in_group Number (general_category c) || is_among c (46 ∷ 91 ∷ 93 ∷ [])

-- A group's name can have each of the characters after its first one.
abbrev pub are_name_parts : Text → Bool
are_name_parts = list_all is_name_part

-- The text is the name of a group.
abbrev pub is_name : Text → Bool
is_name [] = false
is_name (c ∷ rest) = is_name_start c && are_name_parts rest

-- The token of a named group, from the text after `(?<`.
unfoldable pub name_at : Text → Option (Token × Text)
name_at text = cut_at 62 text >>= λ x. if is_name x.0 then Some (opens (named x.0), x.1) else None

-- The token of a named group, from the text after `(?P`.
unfoldable pub python_at : Text → Option (Token × Text)
python_at [] = None
python_at (c ∷ rest) = if c == 60 then name_at rest else None

-- A dash, which turns off the flags of the letters after it.
unfoldable pub dash : Letters → Option Letters
dash s = if s.on then Some (record s { on = false; pending = true }) else None

-- The letters with one more letter, or with a dash.
unfoldable pub next_letter : Letters → ℕ → Option Letters
next_letter s c =
    if c == 45 then dash s
    else option_map (λ change. record s { change = change; pending = false }) (with_letter s.change s.on c)

-- The token at the end of the letters, unless a letter is missing.
unfoldable pub setting_end : Letters → Token → Text → Option (Token × Text)
setting_end s token rest = if s.pending then None else Some (token, rest)

-- The token of a flag setting, from its letters up to `)` or `:`.
abbrev pub letters_from : Letters → Text → Option (Token × Text)
letters_from s [] = None
letters_from s (c ∷ rest) =
    if c == 41 then setting_end s (sets s.change) rest
    else if c == 58 then setting_end s (opens (plain s.change)) rest
    else next_letter s c >>= λ t. letters_from t rest

-- The state before the first letter.
abbrev pub no_letters : Letters
no_letters = record { change = no_change; on = true; pending = true }

-- The token of a group or of a flag setting, from the text after `(?`.
unfoldable pub option_at : Text → Option (Token × Text)
option_at [] = None
option_at (c ∷ rest) =
    if c == 58 then Some (opens (plain no_change), rest)
    else if c == 60 then name_at rest
    else if c == 80 then python_at rest
    else letters_from no_letters (c ∷ rest)

-- The token of a group or of a flag setting, from the text after `(`.
unfoldable pub group_at : Text → Option (Token × Text)
group_at [] = Some (opens capturing, [])
group_at (c ∷ rest) = if c == 63 then option_at rest else Some (opens capturing, c ∷ rest)
