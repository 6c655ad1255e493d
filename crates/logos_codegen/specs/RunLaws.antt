-- Properties of each run of a code, whatever callbacks answer.
use Rattle.std.specs.Prelude.{ℕ, List, IsUtf8}
use Rattle.std.specs.List.{All}
use Rattle.logos_hir.specs.Text.{IsBytes}
use Rattle.logos_code.specs.Code.{CodeValue}
use Rattle.logos_code.specs.Headline.{IsCut}
use Rattle.logos_code.specs.Items.{Callback, Item}
use Rattle.logos_code.specs.Runs.{Runs}

-- A callback that may return any answer for any leaf and slice.
abbrev pub anything : Callback
anything leaf slice answer = Unit {0}

-- On each text, the items of each run of the code start and end between characters.
abbrev pub RunsAreCut : CodeValue → Type 0
RunsAreCut code = (bytes : List ℕ) → (items : List Item) → IsBytes bytes → IsUtf8 bytes → Runs code anything bytes 0 items → All (IsCut bytes) items
