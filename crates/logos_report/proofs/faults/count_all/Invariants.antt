use Rattle.std.proofs.Common.{◌≡◌, ◌+◌, ◌≤◌, drop}
use Rattle.logos_token.specs.FaultView.{faults_of}
use Rattle.logos_report.specs.Sets.{errors_after, next_value}
use Rattle.logos_report.proofs.faults.count_all.Given as goal

abbrev pub invariant-loop-fault : goal.invariant-loop-fault
invariant-loop-fault l = record {
  counted : l.count + errors_after (next_value l.next) (faults_of (drop l.fault-index l.faults)) ≡ errors_after (next_value l.first) (faults_of l.faults);
  few : l.count ≤ l.fault-index;
}
