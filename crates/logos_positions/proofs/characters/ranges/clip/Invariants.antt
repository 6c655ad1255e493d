use Rattle.std.proofs.Common.{◌≡◌, ℕ, ◌<◌, ◌||◌, drop}
use Rattle.logos_positions.specs.inside.Ranges.{in_ranges, from_floor, AreParts}
use Rattle.logos_positions.proofs.characters.ranges.clip.Given as goal

abbrev pub invariant-loop-i : goal.invariant-loop-i
invariant-loop-i l = record {
  members : (o : ℕ) → o < l.window.size →
      (in_ranges l.out.items o || from_floor (in_ranges (drop l.i l.ranges)) l.window.floor l.window.start o) ≡ from_floor (in_ranges l.ranges) l.window.floor l.window.start o;
  parts : AreParts l.window.size l.out.items;
}
