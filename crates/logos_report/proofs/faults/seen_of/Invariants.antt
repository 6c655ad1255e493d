use Rattle.std.proofs.Common.{◌≡◌, ◌≤◌, drop, length}
use Rattle.std.specs.List.{count_by}
use Rattle.logos_token.specs.FaultNames.{name_of}
use Rattle.logos_token.specs.FaultView.{faults_of}
use Rattle.logos_report.specs.Faults.{has_name}
use Rattle.logos_report.proofs.faults.seen_of.Given as goal

abbrev pub invariant-loop-left : goal.invariant-loop-left
invariant-loop-left l = record {
  within : l.left ≤ length l.faults;
  counted : l.count ≡ count_by (has_name (name_of l.code)) (faults_of (drop l.left l.faults));
  few : l.count ≤ 51;
}

abbrev pub decreases-loop-left : goal.decreases-loop-left
decreases-loop-left l = l.left
