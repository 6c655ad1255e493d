-- The first items of an input.
use Rattle.std.specs.Prelude.{◌≡◌, ◌≤◌, ◌⊎◌, ℕ, List, [], ◌∷◌, ◌++◌}
use Rattle.logos_code.specs.Code.{CodeValue}
use Rattle.logos_code.specs.Items.{Callback, Item}
use Rattle.logos_code.specs.Runs.{Runs, RunsOn}
use Rattle.logos_code.specs.declared.action.Action.TheVariants.{Emit}

-- Each match is an item, whatever its callback would decide.
abbrev pub emits : Callback
emits leaf slice answer = answer ≡ Emit

-- From an offset of an input, a run of a code has these items, and then continues at another
-- offset.
pub data RunsTo (code : CodeValue) (callback : Callback) (input : List ℕ) (from : ℕ) : List Item → ℕ → Type 0 where
  begins : RunsTo code callback input from [] from
  adds : (items : List Item) (item : Item) (at to : ℕ) → RunsTo code callback input from items at → RunsOn code callback input at item to →
      RunsTo code callback input from (items ++ item ∷ []) to

-- `items` are all items of a run of a code from an offset of an input, or the first ones up to one
-- that ends at byte `most` or after it.
pub record Begins (code : CodeValue) (callback : Callback) (input : List ℕ) (from most : ℕ) (items : List Item) : Type 0 where
  pub to : ℕ
  pub runs : RunsTo code callback input from items to
  pub enough : (most ≤ to) ⊎ Runs code callback input to []
