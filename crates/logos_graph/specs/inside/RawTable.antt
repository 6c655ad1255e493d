-- The table of an automaton, with only late marks.
use Rattle.std.specs.Prelude.{◌≡◌, ℕ, ◌<◌, List, Option, None, IfSome, Some, length, slice_get}
use Rattle.std.specs.List.{All}
use Rattle.logos_graph.specs.inside.First.{first_of, higher}
use Rattle.logos_automaton.specs.Munch.{Rule}
use Rattle.logos_automaton.specs.Automaton.{Automaton, dfa_next}
use Rattle.logos_reduce.specs.Rows.{target_in}
use Rattle.logos_reduce.specs.declared.table.StateMarks.{StateMarks}

module _ (rules : List Rule) (leaves : ℕ) where
  -- The leaf with the higher priority of the two, and the earlier one if their priorities are
  -- equal.
  abbrev pub best_with : Option ℕ → ℕ → ℕ
  best_with None leaf = leaf
  best_with (Some best) leaf = higher rules best (Some leaf)

  -- The late mark of a state that lists these leaves: a leaf with the highest priority, if all of
  -- them are leaves.
  pub record IsRawMark (listed : List ℕ) (mark : StateMarks) : Type 0 where
    pub early : mark.early ≡ None
    pub named : IfSome mark.accept (λ leaf. leaf < leaves)
    pub first : All (λ leaf. leaf < leaves) listed → mark.accept ≡ first_of rules listed

  -- The mark of state `s`.
  abbrev pub IsMarkOf : Automaton → ℕ → StateMarks → Type 0
  IsMarkOf dfa s mark = (listed : List ℕ) × (slice_get dfa.matches s ≡ Some listed) × IsRawMark listed mark

-- The rows have the targets of the first n states.
pub record AreRawRows (dfa : Automaton) (rows : List (List ℕ)) (n : ℕ) : Type 0 where
  pub len : length rows ≡ n
  pub next : (s b : ℕ) → s < n → b < 256 → target_in rows s b ≡ dfa_next dfa (Some s) b
  pub ends : (s : ℕ) → s < n → target_in rows s 256 ≡ slice_get dfa.at_end s
