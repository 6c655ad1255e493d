use Rattle.std.proofs.Common.{◌≡◌, ℕ, ◌+◌, ◌-◌, ◌*◌, ◌<◌, ◌≤◌, length, vec_len}
use Rattle.logos_positions.specs.Table as table
use Rattle.logos_positions.proofs.characters.builder.follow_row.Given as goal

abbrev pub invariant-loop-part : goal.invariant-loop-part
invariant-loop-part l = record {
  long : vec_len l.cells ≡ 64 * l.row + l.part;
  rests : table.AreRests l.rests.keys;
  longer : length l.fn.rests.keys ≤ length l.rests.keys;
  grows : table.Grows l.fn.rests.keys l.rests.keys;
  cells : (j : ℕ) → j < vec_len l.cells → table.IsCell l.rests.keys l.cells.items j;
  weight : (r : table.Row) → table.IsAt l.fn.rests.keys l.row r →
      table.weight (l.row + 1) l.rests.keys ≤ table.weight (l.row + 1) l.fn.rests.keys + l.part * table.led_to (r.left - 1);
}
