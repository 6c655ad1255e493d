use Rattle.std.proofs.Common.{◌≡◌, ◌++◌, map, flat_map, drop}
use Rattle.logos_automaton.specs.Errors.{fault_of}
use Rattle.logos_codegen.specs.Texts.{named_leaf, reported_as}
use Rattle.logos_codegen.proofs.generation.report_faults.Given as goal

abbrev pub invariant-loop-fault : goal.invariant-loop-fault
invariant-loop-fault l =
    l.errors ++ flat_map (reported_as (map named_leaf l.leaves) l.item) (map fault_of (drop l.fault-index l.faults))
    ≡ l.fn.errors ++ flat_map (reported_as (map named_leaf l.leaves) l.item) (map fault_of l.faults)
