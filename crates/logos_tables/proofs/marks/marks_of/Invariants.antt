use Rattle.std.proofs.Common.{◌≡◌, ◌++◌, map, drop, option_map}
use Rattle.logos_code.specs.CodeView.{mark_of}
use Rattle.logos_tables.specs.Steps.{mark_number}
use Rattle.logos_tables.proofs.marks.marks_of.Given as goal

abbrev pub invariant-loop-state : goal.invariant-loop-state
invariant-loop-state l =
    l.marks.items ++ map (λ state. mark_number (option_map mark_of state.mark)) (drop l.state-index l.states) ≡ map (λ state. mark_number (option_map mark_of state.mark)) l.states
