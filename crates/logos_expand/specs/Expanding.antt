-- The file in which the derive of the lexers is expanded.
use Rattle.std.specs.Prelude.{◌≡◌, ℕ, List, [], ◌∷◌, ◌++◌, ◌⊎◌, ◌==◌, ◌&&◌, ◌||◌, Bool, true, false, codes, slice_range, string_bytes}
use Rattle.logos_expand.specs.Heads.{IsFileWith}
use Rattle.logos_tables.specs.Shapes.{IsLexerText}
use Rattle.logos_tables.specs.declared.shape.Shape.{Shape}
use Rattle.logos_rust_file.specs.declared.finder.FoundEnum.{FoundEnum}
use Rattle.logos_rust_file.specs.declared.replacement.Replacement.{Replacement}
use Rattle.logos_rust_file.specs.Files.{AreEnumsOf}
use Rattle.logos_rust_file.specs.Replacing.{replaced}
use Rattle.logos_layout.specs.Conditions.{conditions_text}
use Rattle.logos_layout.specs.Layout.{IsLaidOut, IsWrittenAs}
use Rattle.logos_rust_file.specs.Handed.{EndsReading}
use Rattle.logos_rust_file.specs.Handed.{IsStripped}
use Rattle.logos_token.specs.Faults.{Fault}
use Rattle.logos_token.specs.Tokens.{TokenList}

-- The attributes of an implementation: they disable these lints of rustc and clippy, and rustfmt.
abbrev pub attributes_text : List ℕ
attributes_text = codes "#[allow(dead_code, deprecated, unused_assignments, unused_imports)]\n#[allow(unused_parens, unused_variables)]\n#[allow(clippy::large_const_arrays, clippy::let_unit_value, clippy::manual_is_ascii_check)]\n#[allow(clippy::manual_range_contains, clippy::needless_else, clippy::question_mark)]\n#[allow(clippy::redundant_locals, clippy::type_complexity, clippy::unit_arg)]\n#[allow(clippy::useless_asref, clippy::useless_conversion)]\n#[rustfmt::skip]\n"

-- The text of a lexer with its attributes, under the conditions of its enum.
abbrev pub lexer_under : TokenList → List ℕ → List ℕ
lexer_under left lexer = conditions_text left ++ (attributes_text ++ lexer)

-- The import of `Logos`, marked as used.
abbrev pub import_text : List ℕ
import_text = codes "#[allow(unused_imports)]\nuse self::Logos as _;\n"

-- The import of `Logos`, if it is requested, under the conditions of an enum.
abbrev pub import_under : Bool → TokenList → List ℕ
import_under false left = []
import_under true left = conditions_text left ++ import_text

-- The text of a lexer with its attributes, and optionally with the import before it.
abbrev pub under : Bool → TokenList → List ℕ → List ℕ
under by_name left lexer = import_under by_name left ++ lexer_under left lexer

-- All these bytes are spaces and tabs.
abbrev pub are_blanks : List ℕ → Bool
are_blanks [] = true
are_blanks (byte ∷ rest) = (byte == 32 || byte == 9) && are_blanks rest

-- The attribute that excludes an enum from rustfmt, on a line.
abbrev pub guard_text : List ℕ
guard_text = codes "#[rustfmt::skip]\n"

-- The line that excludes an enum from rustfmt, with the blanks before the enum, or an empty text.
abbrev pub IsGuard : List ℕ → Type 0
IsGuard guard = (guard ≡ []) ⊎ ((margin : List ℕ) × (are_blanks margin ≡ true) × (guard ≡ guard_text ++ margin))

-- The text of the remaining tokens of an enum, optionally after the line that excludes it from
-- rustfmt.
pub record IsGuarded (left : TokenList) (shown : List ℕ) : Type 0 where
  pub guard : List ℕ
  pub written : List ℕ
  pub is_guard : IsGuard guard
  pub is_written : IsWrittenAs left written
  pub is : shown ≡ guard ++ written

-- The expansion of an enum: the enum without the derive and its attributes, and after LF the
-- generated code of its lexer with attributes, laid out.
pub record IsExpansion (shape : Shape) (source shown : List ℕ) : Type 0 where
  pub left : TokenList
  pub written : List ℕ
  pub lexer : List ℕ
  pub laid : List ℕ
  pub stripped : IsStripped source left
  pub by_name : Bool
  pub is_written : IsGuarded left written
  pub is_lexer : IsLexerText shape source lexer
  pub is_laid_out : IsLaidOut (under by_name left lexer) laid
  pub is : shown ≡ written ++ 10 ∷ laid

-- The text of an enum of a file.
abbrev pub text_at : List ℕ → FoundEnum → List ℕ
text_at text found = slice_range text found.span.from found.span.to

-- Each enum that derives `Logos` is replaced by its expansion, in order, and no other enum is.
pub data Replaces (shape : Shape) (text : List ℕ) : List FoundEnum → List Replacement → Type 0 where
  ended : Replaces shape text [] []
  stays : {one : FoundEnum} {rest : List FoundEnum} {parts : List Replacement} → one.derives ≡ false → Replaces shape text rest parts → Replaces shape text (one ∷ rest) parts
  yields : {one : FoundEnum} {part : Replacement} {rest : List FoundEnum} {parts : List Replacement} →
      one.derives ≡ true → part.span ≡ one.span → IsExpansion shape (text_at text one) (string_bytes part.text) → Replaces shape text rest parts → Replaces shape text (one ∷ rest) (part ∷ parts)

-- A file at a path with parts replaced. It has no first line if there are none.
abbrev pub IsFileOf : Shape → List ℕ → List ℕ → List Replacement → List ℕ → Type 0
IsFileOf shape path text [] bytes = bytes ≡ replaced text 0 []
IsFileOf shape path text (part ∷ parts) bytes = IsFileWith shape path (replaced text 0 (part ∷ parts)) bytes

-- These bytes are the file at a path with the derive of its lexers expanded, and with all other
-- bytes unchanged, after a first line that names its origin, if it can have one.
pub record IsExpanded (shape : Shape) (path text bytes : List ℕ) : Type 0 where
  pub found : List FoundEnum
  pub parts : List Replacement
  pub are : AreEnumsOf text found
  pub replaces : Replaces shape text found parts
  pub is : IsFileOf shape path text parts bytes

-- The file cannot be read into tokens, and this is its one fault.
abbrev pub IsUnreadable : List ℕ → List Fault → Type 0
IsUnreadable text faults = (ending : Fault) × EndsReading text ending × (faults ≡ ending ∷ [])
