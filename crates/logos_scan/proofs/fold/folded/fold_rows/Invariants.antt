use Rattle.std.proofs.Common.{◌≡◌, ℕ, ◌+◌, ◌*◌, ◌<◌, length, slice_index}
use Rattle.logos_scan.specs.walk.Walk.{row_start_of}
use Rattle.logos_scan.specs.fold.Folds.{IsFolded, IsWithin}
use Rattle.logos_scan.proofs.fold.folded.fold_rows.Given as goal

-- the states so far have their rows
abbrev pub invariant-loop-state : goal.invariant-loop-state
invariant-loop-state l = record {
  count : length l.rows.items ≡ 272 * l.state;
  each : (s b : ℕ) → s < l.state → b < 256 → IsFolded l.code s b (slice_index l.rows.items (272 * s + b));
  within : (k : ℕ) → k < 272 * l.state → IsWithin l.code (row_start_of (slice_index l.rows.items k));
}
