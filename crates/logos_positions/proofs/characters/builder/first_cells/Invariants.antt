use Rattle.std.proofs.Common.{◌≡◌, ℕ, ◌+◌, ◌<◌, ◌≤◌, None, slice_index_or, vec_len}
use Rattle.logos_positions.specs.inside.Characters.{lead}
use Rattle.logos_positions.specs.inside.Ranges.{in_ranges}
use Rattle.logos_positions.specs.Table as table
use Rattle.logos_positions.proofs.characters.builder.first_cells.Given as goal

abbrev pub invariant-loop-byte : goal.invariant-loop-byte
invariant-loop-byte l = record {
  rests : table.AreRests l.rests.keys;
  long : vec_len l.cells ≡ l.byte;
  cells : (b : ℕ) → b < l.byte → table.FindsFirst l.rests.keys (in_ranges l.ranges) (lead b) (slice_index_or l.cells.items b None);
  weight : table.weight 0 l.rests.keys + table.first_weight 0 ≤ table.weight 0 l.fn.rests.keys + table.first_weight l.byte;
}
