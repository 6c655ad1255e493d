use Rattle.std.proofs.Common.{◌≡◌, ◌++◌, drop, map, take}
use Rattle.logos_derive.specs.Diagnostics.{errors_after, error_summaries, summary_of}
use Rattle.logos_report.specs.Sets.{next_value, sizes_of}
use Rattle.logos_token.specs.FaultView.{faults_of}
use Rattle.logos_derive.proofs.errors.errors_of.Given as goal

-- with the errors of the faults that are left, those of all are listed
abbrev pub invariant-loop-number : goal.invariant-loop-number
invariant-loop-number l =
    map summary_of l.errors.items ++ errors_after (faults_of (take l.number l.faults)) (next_value l.next) (faults_of (drop l.number l.faults)) ≡ error_summaries (sizes_of l.clues) (faults_of l.faults)
