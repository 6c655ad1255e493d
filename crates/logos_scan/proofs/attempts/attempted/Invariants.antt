use Rattle.std.proofs.Common.{◌-◌, ◌≤◌, length}
use Rattle.logos_scan.specs.Attempts.{SkipsTo}
use Rattle.logos_scan.proofs.attempts.attempted.Given as goal

abbrev pub invariant-loop-to : goal.invariant-loop-to
invariant-loop-to l = record {
  within : l.from ≤ length l.input;
  skips : SkipsTo l.code l.input l.start l.from;
}

abbrev pub decreases-loop-to : goal.decreases-loop-to
decreases-loop-to l = length l.input - l.from
