-- The characters of a source text, and the lexemes that each can be part of.
use Rattle.std.specs.Prelude.{ℕ, ◌+◌, ◌==◌, ◌||◌, Bool, List, drop, slice_index, chars, codes}
use Rattle.std.specs.Char.{len_utf8}
use Rattle.std.specs.Int.{is_in_range}
use Rattle.std.specs.List.{list_any}
use Rattle.unicode_ident.specs.Ident.{is_xid_start, is_xid_continue}

-- The character that begins at a byte offset, and 0 at the end.
unfoldable pub character : List ℕ → ℕ → ℕ
character bytes at = slice_index (chars (drop at bytes)) 0

-- The byte offset after the character that begins at a byte offset.
abbrev pub past : List ℕ → ℕ → ℕ
past bytes at = at + len_utf8 (character bytes at)

-- Whether a character has the property Pattern_White_Space.
unfoldable pub is_space : ℕ → Bool
is_space c = is_in_range 9 13 c || (c == 32) || (c == 0x85) || is_in_range 0x200E 0x200F c || is_in_range 0x2028 0x2029 c

-- Whether a character can begin an identifier.
unfoldable pub is_start : ℕ → Bool
is_start c = is_xid_start c || (c == 95)

-- Whether a character can continue an identifier.
unfoldable pub is_continuing : ℕ → Bool
is_continuing c = is_xid_continue c

-- Whether a character is punctuation.
unfoldable pub is_mark : ℕ → Bool
is_mark c = list_any (λ mark. mark == c) (codes "~!@#$%^&*-=+|;:,<.>/?")
