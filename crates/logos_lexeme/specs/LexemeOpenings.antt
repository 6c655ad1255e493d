-- The lexeme or gap that opens at a byte offset of a source text.
use Rattle.std.specs.Prelude.{ℕ, ◌+◌, ◌-◌, ◌==◌, ◌&&◌, ◌||◌, Bool, not, nat_lt, nat_le, List, drop, slice_index, Option, Some, None, is_some, unwrap_or, option_map, if◌then◌else◌}
use Rattle.std.specs.Char.{is_ascii_digit}
use Rattle.std.specs.List.{prefix_len}
use Rattle.logos_lexeme.specs.LexemeCharacters.{character, past, is_space, is_start, is_mark}
use Rattle.logos_lexeme.specs.declared.lexeme.Spacing.{Spacing}
use Rattle.logos_lexeme.specs.declared.lexeme.Spacing.TheVariants.{Alone, Joint}
use Rattle.logos_lexeme.specs.declared.lexeme.Delimiter.TheVariants.{Parenthesis, Bracket, Brace}
use Rattle.logos_lexeme.specs.declared.lexeme.LexemeKind.{LexemeKind}
use Rattle.logos_lexeme.specs.declared.lexeme.LexemeKind.TheVariants.{Gap, Identifier, Literal, Doc, Punctuation, Opening as OpeningKind, Closing}
use Rattle.logos_lexeme.specs.declared.lexeme.openings.Content.{Content}
use Rattle.logos_lexeme.specs.declared.lexeme.openings.Content.TheVariants.{Text, Bytes, C}
use Rattle.logos_lexeme.specs.declared.lexeme.openings.Opening.{Opening}
use Rattle.logos_lexeme.specs.declared.lexeme.openings.Opening.TheVariants.{Space, Line, Block, Word, Number, Quotes, Raw, Apostrophes, Character, Single, Nothing}

-- The number of consecutive `#` from a byte offset on.
unfoldable pub hashes : List ℕ → ℕ → ℕ
hashes bytes at = prefix_len (λ c. c == 35) (drop at bytes)

-- The raw string that opens after an `r`: up to 255 `#` and a quote.
unfoldable pub raw_opening : Content → List ℕ → ℕ → Option Opening
raw_opening content bytes at =
    let count = hashes bytes at in
    if nat_le count 255 && (slice_index bytes (at + count) == 34) then Some (Raw content count) else None

-- The string that opens at a byte offset, after its `b` or `c` if it has one.
unfoldable pub string_opening : Content → List ℕ → ℕ → Option Opening
string_opening content bytes at =
    if slice_index bytes at == 34 then Some (Quotes content)
    else (if slice_index bytes at == 114 then raw_opening content bytes (at + 1)
    else None)

-- The character literal that opens after a `'`: the next character is `\`, or the one after it is
-- `'`.
unfoldable pub character_opening : List ℕ → ℕ → Option Opening
character_opening bytes at =
    if slice_index bytes at == 92 then Some (Apostrophes Text)
    else (if slice_index bytes (past bytes at) == 39 then Some Character
    else None)

-- The byte or byte string literal that opens after a `b`.
unfoldable pub bytes_opening : List ℕ → ℕ → Option Opening
bytes_opening bytes at =
    if slice_index bytes at == 39 then Some (Apostrophes Bytes)
    else string_opening Bytes bytes at

-- The literal that opens at a byte offset, if there is one.
unfoldable pub literal_opening : List ℕ → ℕ → Option Opening
literal_opening bytes at =
    if is_ascii_digit (slice_index bytes at) then Some Number
    else (if slice_index bytes at == 39 then character_opening bytes (at + 1)
    else (if slice_index bytes at == 98 then bytes_opening bytes (at + 1)
    else (if slice_index bytes at == 99 then string_opening C bytes (at + 1)
    else string_opening Text bytes at)))

-- The kind of a line comment: `///` that no `/` follows, and `//!`, are documentation. `at` is the
-- offset after `//`.
unfoldable pub line_kind : List ℕ → ℕ → LexemeKind
line_kind bytes at =
    if (slice_index bytes at == 33) || ((slice_index bytes at == 47) && not (slice_index bytes (at + 1) == 47)) then Doc else Gap

-- The kind of a block comment: `/**` that neither `*` nor `/` follows, and `/*!`, are
-- documentation. `at` is the offset after `/*`.
unfoldable pub block_kind : List ℕ → ℕ → LexemeKind
block_kind bytes at =
    if (slice_index bytes at == 33) || ((slice_index bytes at == 42) && not ((slice_index bytes (at + 1) == 42) || (slice_index bytes (at + 1) == 47))) then Doc else Gap

-- The comment that opens at a byte offset, if there is one.
unfoldable pub comment_opening : List ℕ → ℕ → Option Opening
comment_opening bytes at =
    if not (slice_index bytes at == 47) then None
    else (if slice_index bytes (at + 1) == 47 then Some (Line (line_kind bytes (at + 2)))
    else (if slice_index bytes (at + 1) == 42 then Some (Block (block_kind bytes (at + 2)))
    else None))

-- The byte offset at which the name of an identifier begins, if there is one: after `r#`, or at the
-- given offset.
unfoldable pub name_at : List ℕ → ℕ → Option ℕ
name_at bytes at =
    if ((slice_index bytes at == 114) && (slice_index bytes (at + 1) == 35)) && is_start (character bytes (at + 2)) then Some (at + 2)
    else (if is_start (character bytes at) then Some at
    else None)

-- The spacing of punctuation that ends at a byte offset: it is joint before punctuation or `'`,
-- unless a comment begins there.
unfoldable pub spacing : List ℕ → ℕ → Spacing
spacing bytes at =
    if (is_mark (slice_index bytes at) || (slice_index bytes at == 39)) && not (is_some (comment_opening bytes at)) then Joint else Alone

-- The kind of a delimiter, if a character is one.
unfoldable pub delimiter_kind : ℕ → Option LexemeKind
delimiter_kind c =
    if c == 40 then Some (OpeningKind Parenthesis)
    else (if c == 41 then Some (Closing Parenthesis)
    else (if c == 91 then Some (OpeningKind Bracket)
    else (if c == 93 then Some (Closing Bracket)
    else (if c == 123 then Some (OpeningKind Brace)
    else (if c == 125 then Some (Closing Brace)
    else None)))))

-- The kind of a lexeme of one character, if there is one: punctuation, the `'` of a lifetime, a
-- delimiter, or U+FEFF at the start of a text.
unfoldable pub single_kind : List ℕ → ℕ → Option LexemeKind
single_kind bytes at =
    let c = character bytes at in
    if is_mark c then Some (Punctuation (spacing bytes (past bytes at)))
    else (if (c == 39) && is_start (character bytes (past bytes at)) then Some (Punctuation Joint)
    else (if (c == 0xFEFF) && (at == 0) then Some Gap
    else delimiter_kind c))

-- The opening at a byte offset at which neither a literal nor a comment opens.
unfoldable pub other_opening : List ℕ → ℕ → Opening
other_opening bytes at =
    if is_space (character bytes at) then Space
    else (if is_some (name_at bytes at) then Word
    else unwrap_or (option_map Single (single_kind bytes at)) Nothing)

-- Whether there is a `'` directly before a byte offset.
unfoldable pub follows_apostrophe : List ℕ → ℕ → Bool
follows_apostrophe bytes at = nat_lt 0 at && (slice_index bytes (at - 1) == 39)

-- Whether the name of a lifetime begins at a byte offset: a character that can begin an identifier,
-- directly after `'`. If a lexeme begins there, that `'` is a lexeme: the `'` that closes a literal
-- takes an identifier after it as its suffix, and a comment ends with `*/`, at a line's end or at
-- the text's end.
unfoldable pub is_lifetime_name : List ℕ → ℕ → Bool
is_lifetime_name bytes at = follows_apostrophe bytes at && is_start (character bytes at)

-- The literal that opens at a byte offset. No literal opens where the name of a lifetime begins.
unfoldable pub literal_at : List ℕ → ℕ → Option Opening
literal_at bytes at = if is_lifetime_name bytes at then None else literal_opening bytes at

-- The opening at a byte offset: a literal if one opens there, otherwise a comment, otherwise the
-- lexeme that its character can begin.
unfoldable pub opening_at : List ℕ → ℕ → Opening
opening_at bytes at = unwrap_or (literal_at bytes at) (unwrap_or (comment_opening bytes at) (other_opening bytes at))

-- The number of bytes before a literal's `r`, `'` or quote.
abbrev pub prefix_of : Content → ℕ
prefix_of Text = 0
prefix_of Bytes = 1
prefix_of C = 1

-- The kind of a lexeme or gap with this opening.
abbrev pub kind_of : Opening → LexemeKind
kind_of Space = Gap
kind_of (Line kind) = kind
kind_of (Block kind) = kind
kind_of Word = Identifier
kind_of Number = Literal
kind_of (Quotes content) = Literal
kind_of (Raw content count) = Literal
kind_of (Apostrophes content) = Literal
kind_of Character = Literal
kind_of (Single kind) = kind
kind_of Nothing = Gap
