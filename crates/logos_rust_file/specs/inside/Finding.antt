-- Steps of the search for the enums of a run.
use Rattle.std.specs.Prelude.{◌≡◌, ◌<◌, List, [], ◌++◌, Option, Some, None}
use Rattle.logos_token.specs.Tokens.{TokenList, count_of}
use Rattle.logos_token.specs.declared.token.views.Tokens.{Tokens}
use Rattle.logos_token.specs.Views.{tokens_of}
use Rattle.logos_rust_file.specs.declared.finder.FoundEnum.{FoundEnum}
use Rattle.logos_rust_file.specs.Files.{Finds}

-- The enums of a run were added.
pub record AddsRun (run : TokenList) (before after : List FoundEnum) : Type 0 where
  pub added : List FoundEnum
  pub finds : Finds run added
  pub are : after ≡ before ++ added

-- The enums of the first item were added. Together with the enums of the rest they are the enums of
-- the run.
pub record AddsFirst (run rest : TokenList) (before after : List FoundEnum) : Type 0 where
  pub added : List FoundEnum
  pub are : after ≡ before ++ added
  pub completes : (more : List FoundEnum) → Finds rest more → Finds run (added ++ more)
  pub shorter : count_of rest < count_of run

-- The first item was added, or there was none.
abbrev pub AddsItem : TokenList → List FoundEnum → List FoundEnum → Option Tokens → Type 0
AddsItem run before after None = Finds run [] × (after ≡ before)
AddsItem run before after (Some rest) = AddsFirst run (tokens_of rest) before after
