-- The beginning of an implementation of `Logos`.
use Rattle.std.specs.Prelude.{◌≡◌, ℕ, List, [], ◌++◌, codes, Option, Some, None}
use Rattle.logos_text.specs.Gaps.{gap_after}
use Rattle.logos_token.specs.Printing.{printed}
use Rattle.logos_token.specs.Tokens.{TokenList}
use Rattle.logos_type.specs.Parts.{Tree}
use Rattle.logos_type.specs.Printed.{printed_type}

-- The text around the body of a lexer.
pub record AroundValue : Type 0 where
  -- The path of the library.
  pub logos : Option TokenList
  -- The type of errors, and this type as it was read.
  pub error : Option TokenList
  pub error_type : Option Tree
  -- The type of extras.
  pub extras : Option TokenList
  -- The type of sources, with the gap after it.
  pub source : List ℕ

-- A run and the gap after it.
abbrev pub run_after : TokenList → List ℕ
run_after run = printed run ++ gap_after [] run

-- The path of the library, with the gap after it.
abbrev pub library_text : Option TokenList → List ℕ
library_text (Some run) = run_after run
library_text None = codes ":: logos "

-- A type, with the gap after it: `()` without tokens.
abbrev pub type_text : Option TokenList → List ℕ
type_text (Some run) = run_after run
type_text None = codes "( ) "

-- The gap after the tokens of a type.
abbrev pub gap_after_type : Option TokenList → List ℕ
gap_after_type (Some run) = gap_after [] run
gap_after_type None = codes " "

-- A type that was read, with the gap after its tokens.
abbrev pub read_type_text : Tree → Option TokenList → List ℕ
read_type_text type run = printed_type type ++ gap_after_type run

-- The type of errors, with the gap after it.
abbrev pub error_type_text : Option Tree → Option TokenList → List ℕ
error_type_text (Some type) run = read_type_text type run
error_type_text None run = type_text run

-- The head of the implementation for a type.
abbrev pub head_text : List ℕ → List ℕ → List ℕ
head_text logos this = codes "impl < 's > " ++ logos ++ codes ":: Logos < 's > for " ++ this ++ codes " { "

-- The associated type of sources.
abbrev pub source_text : List ℕ → List ℕ
source_text source = codes "; type Source = " ++ source ++ codes "; "

-- The associated types of the implementation.
abbrev pub types_text : AroundValue → List ℕ
types_text around =
    codes "type Error = " ++ error_type_text around.error_type around.error ++ codes "; type Extras = " ++ type_text around.extras ++ source_text around.source

-- The path of Rust's `core`, with the gap after it, in a text of code.
abbrev pub short_core : List ℕ
short_core = codes "core "

-- The whole path of Rust's `core`, with the gap after it, in a text of tables. No module beside the
-- enum changes it.
abbrev pub whole_core : List ℕ
whole_core = codes ":: core "

-- The text before the function that lexes by tables. Callers inline that function.
abbrev pub tables_lead : List ℕ
tables_lead = codes "# [ inline ] "

-- The type of the lexer and the result type in the signature of the function that lexes, up to the
-- path of the library.
abbrev pub answer_text : List ℕ → List ℕ
answer_text core =
    codes ":: Lexer < 's , Self > ) -> " ++ core ++ codes ":: option :: Option < " ++ core
    ++ codes ":: result :: Result < Self , < Self as "

-- The signature of the function that lexes, with the text `lead` before it and this path of `core`.
abbrev pub signature_text : List ℕ → List ℕ → List ℕ → List ℕ
signature_text lead core logos = lead ++ codes "fn lex ( lex : & mut " ++ logos ++ answer_text core ++ logos ++ codes ":: Logos < 's >> :: Error >> { "

-- The import of the items of the library that only the function that lexes uses.
abbrev pub internals_text : List ℕ → List ℕ
internals_text logos =
    codes "use " ++ logos ++ codes ":: internal :: { LexerInternal , CallbackRetVal , CallbackResult , SkipRetVal , SkipResult , } ; "

-- The imports of types of `core`.
abbrev pub core_text : List ℕ → List ℕ
core_text core = codes "use " ++ core ++ codes ":: result :: Result as _Result ; use " ++ core ++ codes ":: option :: Option as _Option ; "

-- The rest of the type of the lexer, after the path of the library.
abbrev pub lexer_end_text : List ℕ → List ℕ
lexer_end_text this = codes ":: Lexer < 's , " ++ this ++ codes " > ; "

-- The import of `Logos`, and the type of the lexer.
abbrev pub lexer_text : List ℕ → List ℕ → List ℕ
lexer_text logos this =
    codes "use " ++ logos ++ codes ":: Logos ; type _Lexer < 's > = " ++ logos ++ lexer_end_text this

-- All imports of the function that lexes: of items of the library, of types of `core`, and of
-- `Logos`, with the type of the lexer.
abbrev pub uses_text : List ℕ → List ℕ → List ℕ → List ℕ
uses_text core logos this = internals_text logos ++ core_text core ++ lexer_text logos this

-- The text before the body of the function that lexes.
abbrev pub opening_text : List ℕ → List ℕ → AroundValue → List ℕ → List ℕ
opening_text lead core around this =
    head_text (library_text around.logos) this ++ types_text around ++ signature_text lead core (library_text around.logos)
    ++ uses_text core (library_text around.logos) this

-- The import of the items of the library that a lexer by tables uses.
abbrev pub tables_use_text : List ℕ → List ℕ
tables_use_text logos = codes "use " ++ logos ++ codes ":: internal :: { _Data , _Ranges , _Tables , _Unpacked } ; "

-- The last match arm of the function for tokens, and the end of that function.
abbrev pub last_arm_text : List ℕ
last_arm_text = codes "_ => _Option :: None } } "

-- The text begins with `front`.
pub record BeginsWith (front text : List ℕ) : Type 0 where
  pub rest : List ℕ
  pub is : text ≡ front ++ rest

-- The text is the beginning of an implementation by tables for this type: its head, the imports of
-- the function that lexes, and the functions for errors, matches and tokens.
pub record IsFront (around : AroundValue) (this : List ℕ) (text : List ℕ) : Type 0 where
  pub functions : List ℕ
  pub is : text ≡ opening_text tables_lead whole_core around this ++ (tables_use_text (library_text around.logos) ++ (functions ++ last_arm_text))
