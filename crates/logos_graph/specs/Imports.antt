-- Definitions that contracts cite: those of lower crates, and those of this crate that name none of
-- its types.
pub use Rattle.logos_automaton.specs.Automaton.{IsTotal, ReadsOneByteLate}
pub use Rattle.logos_automaton.specs.DfaView.{dfa_of}
pub use Rattle.logos_automaton.specs.Errors.{fault_of}
pub use Rattle.logos_automaton.specs.Faults.{AllStart, AreFaults, Fault}
pub use Rattle.logos_automaton.specs.Measures.{size_of}
pub use Rattle.logos_automaton.specs.Munch.{Finds, Found, Rule, matched, priority_of}
pub use Rattle.logos_automaton.specs.declared.errors.BuildError.TheVariants.{LimitSize, Memory}
pub use Rattle.logos_byte_class.specs.Bytes.{bounds, ranges_of}
pub use Rattle.logos_byte_class.specs.ClassText.{byte_text}
pub use Rattle.logos_hir.specs.Text.{IsBytes}
pub use Rattle.logos_positions.specs.Marks.{IsFirstFrom, IsRising}
pub use Rattle.logos_reduce.specs.History.{YieldsEvidence}
pub use Rattle.logos_reduce.specs.Raw.{IsRaw}
pub use Rattle.logos_reduce.specs.Rows.{IsClosed, target_by}
pub use Rattle.logos_reduce.specs.RowsView.{rows_of}
pub use Rattle.logos_reduce.specs.Table.{edges, mark, mark_in, size, to, type_of}
pub use Rattle.std.specs.Coded.{codes}
pub use Rattle.std.specs.Fmt.{decimal}
pub use Rattle.std.specs.Iterator.{YieldsFirstBy, item_count}
pub use Rattle.std.specs.List.{All, flat_map, range_with_len}
pub use mir.Syntax.{named}
pub use Rattle.logos_graph.specs.FinishedGraph.{AreNeat, IsFinished, IsFit, NamesLeaves}
pub use Rattle.logos_graph.specs.Found.{FindsTheLongest}
pub use Rattle.logos_graph.specs.Graph.{Distinguishes, GraphState, walk}
pub use Rattle.logos_graph.specs.GraphOf.{AreFindings, IsGraphOf, Refuses}
pub use Rattle.logos_graph.specs.Least.{IsEvidence, IsLeast}
pub use Rattle.logos_graph.specs.Mermaid.{byte_edge_lines, class_label, edge_lines, edge_name, end_edge_lines, label_character, label_text, link_line, mermaid_of, next_label, node_lines, node_name, range_label, state_colour, state_label, state_lines, style_line}
pub use Rattle.logos_graph.specs.ReduceShown.{Shows}
pub use Rattle.logos_graph.specs.Reduced.{HasType, IsReduced}
pub use Rattle.logos_graph.specs.View.{GraphValue, rule_of, rules_of}
pub use Rattle.logos_graph.specs.inside.First.{first_of}
pub use Rattle.logos_graph.specs.inside.RawTable.{AreRawRows, IsMarkOf, IsRawMark, best_with}
pub use Rattle.logos_graph.specs.inside.Walk.{MarksOneByteLate}
