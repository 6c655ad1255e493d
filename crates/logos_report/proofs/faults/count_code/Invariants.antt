use Rattle.std.proofs.Common.{◌≡◌, ◌+◌, drop}
use Rattle.std.specs.List.{count_by}
use Rattle.logos_token.specs.FaultNames.{name_of}
use Rattle.logos_token.specs.FaultView.{faults_of}
use Rattle.logos_report.specs.Faults.{has_name}
use Rattle.logos_report.proofs.faults.count_code.Given as goal

abbrev pub invariant-loop-fault : goal.invariant-loop-fault
invariant-loop-fault l = l.count + count_by (has_name (name_of l.code)) (faults_of (drop l.fault-index l.faults)) ≡ count_by (has_name (name_of l.code)) (faults_of l.faults)
