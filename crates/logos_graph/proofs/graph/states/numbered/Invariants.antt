use Rattle.std.proofs.Common.{◌≡◌, map, take}
use Rattle.logos_graph.specs.GraphView.{state_number}
use Rattle.logos_graph.proofs.graph.states.numbered.Given as goal

abbrev pub invariant-loop-number : goal.invariant-loop-number
invariant-loop-number l = map state_number l.states.items ≡ take l.number-index l.numbers
