use Rattle.std.proofs.Common.{◌≡◌, ℕ, ◌<◌, length, vec_len}
use Rattle.logos_automaton.specs.DfaView.{dfa_of}
use Rattle.logos_graph.specs.inside.RawTable.{IsMarkOf}
use Rattle.logos_reduce.specs.Table.{mark_in}
use Rattle.logos_graph.specs.View.{rules_of}
use Rattle.logos_graph.proofs.raw_table.raw_marks.Given as goal

abbrev pub invariant-loop-state : goal.invariant-loop-state
invariant-loop-state l = (vec_len l.marks ≡ l.state) × ((s : ℕ) → s < l.state → IsMarkOf (rules_of l.leaves) (length l.leaves) (dfa_of l.dfa) s (mark_in l.marks.items s))
