use Rattle.std.proofs.Common.{◌≡◌, ◌≤◌, ◌-◌, length, max}
use Rattle.logos_lines.specs.Locations.{location_at}
use Rattle.logos_lines.proofs.cursor.Cursor.go_to.Given as goal

abbrev pub invariant-loop-self : goal.invariant-loop-self
invariant-loop-self l = record {
  same : l.self-inside.bytes.now ≡ l.initial.self-inside.bytes.now;
  from : l.initial.self-inside.offset ≤ l.self-inside.offset;
  bounded : l.self-inside.offset ≤ max l.initial.self-inside.offset l.end;
  inside : l.self-inside.offset ≤ length l.self-inside.bytes.now;
  end_inside : l.end ≤ length l.self-inside.bytes.now;
  location : l.self-inside.location ≡ location_at l.self-inside.bytes.now l.self-inside.offset;
}

abbrev pub decreases-loop-self : goal.decreases-loop-self
decreases-loop-self l = l.end - l.self-inside.offset
