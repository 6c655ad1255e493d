use Rattle.std.proofs.Common.{◌≡◌, ◌++◌, drop, string_bytes}
use Rattle.std.specs.List.{flat_map}
use Rattle.logos_token.specs.FaultView.{faults_of}
use Rattle.logos_token.specs.Rendering.{rendered_fault}
use Rattle.logos_token.proofs.error.rendering.push_faults.Given as goal

abbrev pub invariant-loop-fault : goal.invariant-loop-fault
invariant-loop-fault l =
    string_bytes l.text ++ flat_map rendered_fault (faults_of (drop l.fault-index l.faults)) ≡ string_bytes l.initial.text ++ flat_map rendered_fault (faults_of l.faults)
