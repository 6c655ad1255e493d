use Rattle.std.proofs.Common.{◌≡◌, ◌≤◌, ◌++◌, drop, length, min}
use Rattle.std.specs.List.{count_by}
use Rattle.logos_token.specs.FaultNames.{name_of}
use Rattle.logos_token.specs.FaultView.{faults_of}
use Rattle.logos_report.specs.Faults.{has_name}
use Rattle.logos_report.specs.Parts.{all_faults}
use Rattle.logos_report.proofs.file_report.seen_in.Given as goal

abbrev pub invariant-loop-left : goal.invariant-loop-left
invariant-loop-left l = record {
  within : l.left ≤ length l.earlier;
  counted : l.count ≡ min (count_by (has_name (name_of l.code)) (all_faults (drop l.left l.earlier) ++ faults_of l.front)) 51;
}

abbrev pub decreases-loop-left : goal.decreases-loop-left
decreases-loop-left l = l.left
