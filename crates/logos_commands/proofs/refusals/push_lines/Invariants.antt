use Rattle.std.proofs.Common.{◌≡◌, ◌++◌, drop, string_bytes}
use Rattle.std.specs.List.{flat_map}
use Rattle.logos_token.specs.FaultView.{faults_of}
use Rattle.logos_commands.specs.Refusals.{fault_line}
use Rattle.logos_commands.proofs.refusals.push_lines.Given as goal

abbrev pub invariant-loop-fault : goal.invariant-loop-fault
invariant-loop-fault l = string_bytes l.text ++ flat_map fault_line (faults_of (drop l.fault-index l.faults)) ≡ string_bytes l.initial.text ++ flat_map fault_line (faults_of l.faults)
