use Rattle.std.proofs.Common.{◌≡◌, ◌+◌, ◌-◌, ◌≤◌}
use Rattle.logos_positions.specs.Marks.{Has}
use Rattle.logos_positions.specs.Table.{reader_of}
use Rattle.logos_automaton.proofs.keys.WalkLemmas.{AreDone}
use Rattle.logos_automaton.proofs.boundaries.mark_rows.Given as goal

abbrev pub invariant-loop-row : goal.invariant-loop-row
invariant-loop-row l = record {
  within : l.row ≤ l.table.rows;
  done : AreDone (λ k x y. Has l.marks (l.base + k) → (reader_of l.table).follow k x ≡ (reader_of l.table).follow k y) l.initial.marked l.marked l.row;
}

abbrev pub decreases-loop-row : goal.decreases-loop-row
decreases-loop-row l = l.table.rows - l.row
