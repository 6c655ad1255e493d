use Rattle.std.proofs.Common.{◌≡◌, ◌++◌, drop, map}
use Rattle.logos_automaton.specs.Errors.{fault_of}
use Rattle.logos_report.specs.Sets.{size_of}
use Rattle.logos_causes.specs.Sets.{set_sizes}
use Rattle.logos_causes.proofs.meetings.meetings_of.Given as goal

-- with the sets among the faults that are left these are all sets
abbrev pub invariant-loop-fault : goal.invariant-loop-fault
invariant-loop-fault l =
    map size_of l.meetings.items ++ set_sizes (map fault_of (drop l.fault-index l.faults)) ≡ set_sizes (map fault_of l.faults)
