use Rattle.std.proofs.Common.{◌≡◌, ℕ, ◌<◌, Some, length, drop, slice_get, IsSomeAnd}
use Rattle.logos_graph.specs.Graph.{GraphState}
use Rattle.logos_code.specs.CodeView.{state_of}
use Rattle.logos_generator.specs.Nodes.{IsStateOf}
use Rattle.logos_generator.specs.Numbering.{numbered, uses_from, with_tables, tables_from}
use Rattle.logos_generator.proofs.generator.states.states_of.Given as goal

-- the states so far are made
abbrev pub invariant-loop-state : goal.invariant-loop-state
invariant-loop-state l = record {
  numbers : numbered l.tables.tests.keys (uses_from (length l.yielded) (drop (length l.yielded) l.graph.states)) ≡ numbered l.initial.tables.tests.keys (uses_from 0 l.graph.states);
  tables : with_tables l.tables.jumps.keys (tables_from (length l.yielded) (drop (length l.yielded) l.graph.states)) ≡ with_tables l.initial.tables.jumps.keys (tables_from 0 l.graph.states);
  count : length l.made.items ≡ length l.yielded;
  each : (k : ℕ) (state : GraphState) → k < length l.yielded → slice_get l.graph.states k ≡ Some state →
      IsSomeAnd (slice_get l.made.items k) (λ made. IsStateOf l.tables.tests.keys k state (state_of l.tables.jumps.keys made));
}
