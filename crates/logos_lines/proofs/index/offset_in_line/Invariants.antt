use Rattle.std.proofs.Common.{◌≡◌, ◌≤◌, ◌-◌, ℕ, length, IsCharBoundary}
use Rattle.logos_lines.specs.Locations.{location_at}
use Rattle.logos_lines.proofs.index.offset_in_line.Given as goal

abbrev pub invariant-loop-at : goal.invariant-loop-at
invariant-loop-at l = record {
  inside : l.at ≤ length l.bytes;
  location : location_at l.bytes l.at ≡ record { line = l.line; column = l.reached };
  least : (o : ℕ) → IsCharBoundary l.bytes o → location_at l.bytes o ≡ record { line = l.line; column = l.column } → l.at ≤ o;
}

abbrev pub decreases-loop-at : goal.decreases-loop-at
decreases-loop-at l = length l.bytes - l.at
