use Rattle.std.proofs.Common.{◌≡◌, ◌≤◌, ◌+◌, ◌-◌, length, drop}
use Rattle.logos_lines.specs.Locations.{line_length}
use Rattle.logos_lines.proofs.index.near_end.Given as goal

abbrev pub invariant-loop-end : goal.invariant-loop-end
invariant-loop-end l = record {
  after : l.start ≤ l.end;
  inside : l.end ≤ length l.bytes;
  near : l.end ≤ l.start + l.most;
  value : l.end + line_length (drop l.end l.bytes) ≡ l.start + line_length (drop l.start l.bytes);
}

abbrev pub decreases-loop-end : goal.decreases-loop-end
decreases-loop-end l = length l.bytes - l.end
