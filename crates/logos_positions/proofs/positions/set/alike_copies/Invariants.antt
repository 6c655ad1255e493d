use Rattle.std.proofs.Common.{ℕ, ◌+◌, ◌-◌, ◌*◌, ◌<◌, ◌≤◌, ◌↔◌}
use Rattle.logos_positions.specs.Marks.{Has, IsFirstFrom}
use Rattle.logos_positions.proofs.positions.set.alike_copies.Given as goal

abbrev pub invariant-loop-more : goal.invariant-loop-more
invariant-loop-more l = record {
  few : l.more < l.copies.count;
  first : IsFirstFrom l.marks (l.copies.base + l.copies.each * (l.more + 1)) l.at;
  same : (k q : ℕ) → k ≤ l.more → q < l.copies.each → Has l.marks (l.copies.base + l.copies.each * k + q) ↔ Has l.marks (l.copies.base + q);
}

abbrev pub decreases-loop-more : goal.decreases-loop-more
decreases-loop-more l = l.copies.count - l.more
