use Rattle.std.proofs.Common.{◌≡◌, ℕ, ◌+◌, ◌-◌, ◌<◌, ◌≤◌, ◌↔◌, ◌⊎◌, length, slice_index}
use Rattle.logos_positions.specs.Marks.{Has}
use Rattle.logos_positions.proofs.steps.AlikeLemmas.{AreMoved}
use Rattle.logos_positions.proofs.positions.set.push_moved.Given as goal

abbrev pub invariant-loop-i : goal.invariant-loop-i
invariant-loop-i l = record {
  order : l.from ≤ l.i;
  within : l.i ≤ l.to;
  longer : length l.initial.positions.items ≤ length l.positions.items;
  keeps : (k : ℕ) → k < length l.initial.positions.items → slice_index l.positions.items k ≡ slice_index l.initial.positions.items k;
  set : AreMoved l.initial.positions.items l.positions.items l.from l.to l.i l.shift;
  has : (q : ℕ) → Has l.positions.items q ↔ (Has l.initial.positions.items q ⊎ ((k : ℕ) × (l.from ≤ k) × (k < l.i) × (slice_index l.initial.positions.items k + l.shift ≡ q)));
}

abbrev pub decreases-loop-i : goal.decreases-loop-i
decreases-loop-i l = l.to - l.i
