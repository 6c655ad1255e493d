use Rattle.std.proofs.Common.{◌≡◌, length, take}
use Rattle.logos_evidence.specs.inside.Shown.{shown}
use Rattle.logos_evidence.proofs.graph_steps.states_of.Given as goal

-- the first states are there
abbrev pub invariant-loop-state : goal.invariant-loop-state
invariant-loop-state l = shown l.states.items ≡ take (length l.yielded) l.graph.states
