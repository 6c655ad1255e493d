-- The states that an iterator has not returned yet.
use Rattle.std.specs.Prelude.{ℕ, ◌-◌, List}
use Rattle.std.specs.List.{range_with_len}
use Rattle.logos_graph.specs.declared.graph.value.States.{States}

-- The numbers of the states that an iterator has not returned yet.
abbrev pub states_left : States → List ℕ
states_left states = range_with_len states.next (states.end - states.next)
