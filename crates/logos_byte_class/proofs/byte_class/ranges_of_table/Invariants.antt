use Rattle.std.proofs.Common.{◌≡◌, ℕ, ◌-◌, ◌<◌, ◌≤◌, true, false, List, [], ◌++◌, map, slice_index_or}
use Rattle.logos_hir.specs.ByteRanges.{is_in}
use Rattle.logos_byte_class.specs.Bytes.{bounds, AreSeparatedFrom}
use Rattle.logos_byte_class.proofs.byte_class.ranges_of_table.Given as goal

abbrev pub invariant-loop-start : goal.invariant-loop-start
invariant-loop-start l = record {
  within : l.start ≤ 256;
  marked : l.start < 256 → slice_index_or l.table l.start false ≡ true;
  members : (b : ℕ) → b < l.start → is_in (map bounds l.made.items) b ≡ slice_index_or l.table b false;
  no_others : (b : ℕ) → l.start ≤ b → is_in (map bounds l.made.items) b ≡ false;
  separated : (rest : List (ℕ × ℕ)) → AreSeparatedFrom l.start rest → (256 ≤ l.start → rest ≡ []) → AreSeparatedFrom 0 (map bounds l.made.items ++ rest);
}

abbrev pub decreases-loop-start : goal.decreases-loop-start
decreases-loop-start l = 256 - l.start
