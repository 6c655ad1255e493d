-- The lines of items.
use Rattle.std.specs.Prelude.{◌≡◌, ℕ, List, ◌++◌, Option, decimal, codes}
use Rattle.std.specs.List.{flat_map}
use Rattle.std.specs.Io.KnownBytes.{Appends}
use Rattle.logos_code.specs.declared.action.Action.TheVariants.{Emit}
use Rattle.logos_code.specs.Code.{CodeValue}
use Rattle.logos_code.specs.Items.{Callback, Item, token, error}
use Rattle.logos_code.specs.Runs.{Runs}

-- A span, and a line end.
abbrev pub span_line : (from to : ℕ) → List ℕ
span_line from to = decimal from ++ (codes ".." ++ (decimal to ++ codes "\n"))

-- The line of an item: its kind, the number of its leaf, and its span.
abbrev pub line_of : Item → List ℕ
line_of (token leaf from to slice) = codes "token " ++ (decimal leaf ++ (codes " " ++ span_line from to))
line_of (error leaf from to slice) = codes "error " ++ span_line from to

-- The lines of these items, in order.
abbrev pub lines_of : List Item → List ℕ
lines_of items = flat_map line_of items

-- A callback that only answers `Emit`.
abbrev pub emits : Callback
emits leaf slice answer = answer ≡ Emit

-- The bytes `before` were written, followed by the lines of all items of a run of a code from the
-- offset `from`.
pub record WritesLines (code : CodeValue) (callback : Callback) (bytes : List ℕ) (from : ℕ) (before : List ℕ) (old new : Option (List ℕ)) : Type 0 where
  pub items : List Item
  pub runs : Runs code callback bytes from items
  pub appends : Appends old new (before ++ lines_of items)
