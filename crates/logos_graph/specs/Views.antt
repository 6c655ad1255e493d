-- Definitions that contracts cite: those of `Imports`, and those that name types of this crate.
pub use Rattle.logos_graph.specs.Imports.{All, AreNeat, YieldsEvidence, IsFinished, IsFirstFrom, IsFit, IsRising, Shows, YieldsFirstBy, bounds, byte_edge_lines, byte_text, class_label, decimal, dfa_of, edge_lines, edge_name, end_edge_lines, fault_of, flat_map, item_count, label_character, label_text, link_line, mark, mermaid_of, next_label, node_lines, node_name, range_label, range_with_len, ranges_of, size, state_colour, state_label, state_lines, style_line, target_by, to, type_of}
pub use Rattle.logos_graph.specs.Backward.{AreBackward, HaveBackward}
pub use Rattle.logos_graph.specs.GraphInside.{IsConsistent, value_of}
pub use Rattle.logos_graph.specs.GraphView.{edge_of, graph_state_of, leaf_number, state_number, state_type_of}
pub use Rattle.logos_graph.specs.StatesView.{states_left}
pub use Rattle.logos_graph.specs.inside.States.{AreEdgesOf, IsStateOf, targets, with_range, with_run}
