use Rattle.std.proofs.Common.{◌≡◌, ℕ, ◌+◌, ◌*◌, ◌<◌, ◌≤◌, length, vec_len}
use Rattle.logos_positions.specs.Table as table
use Rattle.logos_positions.proofs.characters.builder.follow_cells.Given as goal

abbrev pub invariant-loop-row : goal.invariant-loop-row
invariant-loop-row l = record {
  within : l.row ≤ length l.rests.keys;
  long : vec_len l.cells ≡ 64 * l.row;
  rests : table.AreRests l.rests.keys;
  grows : table.Grows l.fn.rests.keys l.rests.keys;
  cells : (j : ℕ) → j < 64 * l.row → table.IsCell l.rests.keys l.cells.items j;
  weight : l.row + table.weight l.row l.rests.keys ≤ 34_361;
}

abbrev pub decreases-loop-row : goal.decreases-loop-row
decreases-loop-row l = table.weight l.row l.rests.keys
