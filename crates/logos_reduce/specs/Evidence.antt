-- Bytes, with or without the end after them, that distinguish two states of a table.
use Rattle.std.specs.Prelude.{◌≢◌, ◌<◌, ℕ, List, Option, Some, option_map, option_and_then, length, Bool, if◌then◌else◌}
use Rattle.std.specs.List.{All}
use Rattle.logos_reduce.specs.Table.{size, to, mark}
use Rattle.logos_reduce.specs.SymbolWords.{state_after}
use Rattle.logos_reduce.specs.declared.table.StateMarks.{StateMarks}
use Rattle.logos_reduce.specs.declared.table.Table.{Table}

module _ (table : Table) where
  -- The mark of a state, or of the state to which the end leads from it if the flag is set.
  abbrev pub mark_with_end : ℕ → Bool → Option StateMarks
  mark_with_end s ends =
      if ends then option_map (mark table) (to table s 256) else Some (mark table s)

  -- The mark after the bytes, with the end after them if the flag is set.
  abbrev pub mark_after : ℕ → List ℕ → Bool → Option StateMarks
  mark_after s bytes ends = option_and_then (λ t. mark_with_end t ends)
      (state_after table (Some s) bytes)

  -- The bytes lead from the two states to different marks, or can be followed from exactly one of
  -- the two states.
  abbrev pub Distinguishes : ℕ → ℕ → List ℕ → Bool → Type 0
  Distinguishes s t bytes ends = mark_after s bytes ends ≢ mark_after t bytes ends

  -- Bytes that distinguish the two states, fewer than there are states.
  pub record IsEvidence (s t : ℕ) (bytes : List ℕ) (ends : Bool) : Type 0 where
    pub are_bytes : All (λ b. b < 256) bytes
    pub distinguishes : Distinguishes s t bytes ends
    pub short : length bytes < size table
