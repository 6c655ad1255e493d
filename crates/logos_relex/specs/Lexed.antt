-- The items of an input, before and after an edit.
use Rattle.std.specs.Prelude.{◌≡◌, ℕ, ◌≤◌, List, ◌++◌, length, take, drop, map, IsTrue}
use Rattle.std.specs.Str.{IsUtf8, IsValidUpTo}
use Rattle.logos_code.specs.Code.{CodeValue}
use Rattle.logos_code.specs.Headline.{IsSound}
use Rattle.logos_code.specs.Items.{Callback}
use Rattle.logos_code.specs.Runs.{Runs}
use Rattle.logos_lexeme.specs.declared.lexeme.Span.{Span}
use Rattle.logos_relex.specs.Chunks.{AreChunks, all_items, item_at}
use Rattle.logos_relex.specs.declared.chunk.ItemAt.{ItemAt}
use Rattle.logos_relex.specs.declared.chunk.Chunk.{Chunk}
use Rattle.logos_relex.specs.declared.lexed.Lexed.{Lexed}
use Rattle.logos_relex.specs.declared.lexed.RelexError.{RelexError}
use Rattle.logos_relex.specs.declared.lexed.RelexError.TheVariants as errors

module _ (code : CodeValue) (callback : Callback) where
  -- Chunks and last items were made from an input: each chunk was found in its window, and the last
  -- items reach the input's end.
  pub record IsMade (input : List ℕ) (chunks : List Chunk) (last : List ItemAt) : Type 0 where
    pub rest : List ℕ
    pub chunks_are : AreChunks code callback input chunks rest
    pub last_are : Runs code callback rest 0 (map (item_at rest) last)
    pub text : IsTrue code.utf8 → IsUtf8 rest

  -- The chunks and the last items of `lexed` were made from the input.
  pub record IsLexed (input : List ℕ) (lexed : Lexed) : Type 0 where
    pub made : IsMade input lexed.chunks.items lexed.last.items
    pub length_is : lexed.length ≡ length input

  -- The items of a lexed input are those of a run of the code on it.
  abbrev pub LexedIsRun : Type 0
  LexedIsRun = IsSound code → (input : List ℕ) (lexed : Lexed) → IsLexed input lexed →
      Runs code callback input 0 (map (item_at input) (all_items lexed.chunks.items lexed.last.items))

-- In UTF-8 mode the input is UTF-8.
abbrev pub IsInput : CodeValue → List ℕ → Type 0
IsInput code input = IsTrue code.utf8 → IsUtf8 input

-- The items are unchanged.
pub record Stays (old new : Lexed) : Type 0 where
  pub chunks : new.chunks.items ≡ old.chunks.items
  pub last : new.last.items ≡ old.last.items
  pub length_is : new.length ≡ old.length

-- `input` is `former` with other bytes in place of the span `replaced`.
pub record IsEdited (former : List ℕ) (replaced : Span) (input : List ℕ) : Type 0 where
  pub order : replaced.from ≤ replaced.to
  pub within : replaced.to ≤ length former
  pub inserted : List ℕ
  pub is : input ≡ take replaced.from former ++ inserted ++ drop replaced.to former

-- The items are those of a former input, and an edit of the span `replaced` has changed it to
-- `input`.
pub record WasLexed (code : CodeValue) (callback : Callback) (replaced : Span) (input : List ℕ) (lexed : Lexed) : Type 0 where
  pub former : List ℕ
  pub lexed_of : IsLexed code callback former lexed
  pub edited : IsEdited former replaced input

-- The code is in UTF-8 mode and the input is not UTF-8, with the length of its longest prefix that
-- is; or memory ran out.
abbrev pub IsRefused : CodeValue → List ℕ → RelexError → Type 0
IsRefused code input (errors.NotUtf8 valid_up_to) = IsTrue code.utf8 × (¬ IsUtf8 input) × IsValidUpTo input valid_up_to
IsRefused code input errors.Memory = Unit {0}
