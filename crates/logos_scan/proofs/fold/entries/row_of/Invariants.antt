use Rattle.std.proofs.Common.{◌≡◌, ℕ, ◌<◌, length, slice_index}
use Rattle.logos_scan.specs.walk.Walk.{row_start_of}
use Rattle.logos_scan.specs.fold.Folds.{IsFolded, IsWithin}
use Rattle.logos_scan.proofs.fold.entries.row_of.Given as goal

abbrev pub invariant-loop-b : goal.invariant-loop-b
invariant-loop-b l = record {
  long : length l.row ≡ 272;
  each : (b : ℕ) → b < l.b → IsFolded l.code l.state b (slice_index l.row b);
  within : (k : ℕ) → k < 272 → IsWithin l.code (row_start_of (slice_index l.row k));
}
