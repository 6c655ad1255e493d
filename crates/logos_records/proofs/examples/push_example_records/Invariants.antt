use Rattle.std.proofs.Common.{◌≡◌, ◌≤◌, ◌-◌, [], length}
use Rattle.logos_graph.specs.GraphOf.{IsGraphOf}
use Rattle.logos_json.specs.Lines.{LinesValue}
use Rattle.logos_records.specs.Examples.{PutsExamples}
use Rattle.logos_records.proofs.examples.push_example_records.Given as goal

-- with the leaves that are left the objects of all are pushed
abbrev pub invariant-loop-leaf : goal.invariant-loop-leaf
invariant-loop-leaf l = record {
  within : l.leaf ≤ length l.one.graph.now.leaves;
  rest : IsGraphOf l.one.graph.now.leaves l.one.graph.now.utf8 l.one.graph.now → l.one.graph.now.faults ≡ [] → (new : LinesValue) →
      PutsExamples l.one.name.now l.one.graph.now.leaves l.one.graph.now.utf8 l.leaf (length l.one.graph.now.leaves - l.leaf) l.lines new →
      PutsExamples l.one.name.now l.one.graph.now.leaves l.one.graph.now.utf8 0 (length l.one.graph.now.leaves) l.initial.lines new;
}
