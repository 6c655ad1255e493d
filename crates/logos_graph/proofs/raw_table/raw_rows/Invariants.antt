use Rattle.logos_automaton.specs.DfaView.{dfa_of}
use Rattle.logos_graph.specs.inside.RawTable.{AreRawRows}
use Rattle.logos_reduce.specs.RowsView.{rows_of}
use Rattle.logos_graph.proofs.raw_table.raw_rows.Given as goal

abbrev pub invariant-loop-state : goal.invariant-loop-state
invariant-loop-state l = AreRawRows (dfa_of l.dfa) (rows_of l.rows) l.state
