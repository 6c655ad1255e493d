-- Words of symbols, and the states that they distinguish.
use Rattle.std.specs.Prelude.{◌≢◌, ℕ, List, [], ◌∷◌, Option, Some, None, option_map}
use Rattle.logos_reduce.specs.Table.{to, mark}
use Rattle.logos_reduce.specs.declared.table.StateMarks.{StateMarks}
use Rattle.logos_reduce.specs.declared.table.Table.{Table}

module _ (table : Table) where
  -- The state to which a word of symbols leads.
  abbrev pub state_after : Option ℕ → List ℕ → Option ℕ
  state_after None word = None
  state_after (Some s) [] = Some s
  state_after (Some s) (k ∷ word) = state_after (to table s k) word

  -- The mark of the state to which a word leads.
  abbrev pub outcome : ℕ → List ℕ → Option StateMarks
  outcome s word = option_map (mark table) (state_after (Some s) word)

  -- The word leads from the two states to different marks, or can be followed from exactly one of
  -- the two states.
  abbrev pub WordDistinguishes : ℕ → ℕ → List ℕ → Type 0
  WordDistinguishes s t word = outcome s word ≢ outcome t word
