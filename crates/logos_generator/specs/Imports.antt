-- Definitions that contracts cite: those of lower crates, and those of this crate that name none of
-- its types.
pub use Rattle.indexmap.specs.IndexSet.{insert_key}
pub use Rattle.logos_automaton.specs.Munch.{IsInput, Rule}
pub use Rattle.logos_byte_class.specs.Bytes.{AreSeparated, comparison_of, has_byte, ranges_of}
pub use Rattle.logos_code.specs.Bytes.{passes_test}
pub use Rattle.logos_code.specs.CodeView.{branch_of, condition_of, entry_of, fork_of, mark_of, state_of, use_of}
pub use Rattle.logos_code.specs.Items.{Item, Items}
pub use Rattle.logos_code.specs.Order.{AreInOrder, IsLeftOut, Parts}
pub use Rattle.logos_graph.specs.FinishedGraph.{IsFinished}
pub use Rattle.logos_graph.specs.GraphView.{edge_of, graph_state_of, state_number, state_type_of}
pub use Rattle.logos_graph.specs.StatesView.{states_left}
pub use Rattle.logos_graph.specs.View.{rule_of}
pub use Rattle.logos_machine.specs.LexerValue.{answers_of}
pub use Rattle.std.specs.Bool.{beq}
pub use Rattle.std.specs.Cmp.Lexicographic.{pointwise}
pub use Rattle.std.specs.Coded.{codes}
pub use Rattle.std.specs.List.{All, flat_map, range_with_len}
pub use Rattle.std.specs.Option.{option_or}
pub use mir.Syntax.{named}
pub use Rattle.logos_generator.specs.GeneratorValue.{GeneratorValue, IsCopy, KeepsGiven, code_leaf_value, fresh, leaf_value}
pub use Rattle.logos_generator.specs.Laws.{GraphsYieldLexers, ItemsAreOnce, ItemsGoOver, LexersAgree, NextIsTheNext, RunsAreCut, RunsAreItems}
pub use Rattle.logos_generator.specs.Makes.{mark_made}
pub use Rattle.logos_generator.specs.Nodes.{AreBranchesOf, Extends, IsConditionOf, IsForkOf, IsLoopOf, IsStateOf, IsTest, cost, hit, leads_beside, left_out, tests_byte}
pub use Rattle.logos_generator.specs.Numbering.{HasNodesOf, bit_table, bit_tables_of, bits_from, branch_uses, condition_uses, fork_tables, fork_uses, jump_table, jump_tables_of, loop_uses, numbered, state_uses, tables_from, tests_of, uses_from, with_tables}
pub use Rattle.logos_generator.specs.Runs.{RunsAs}
pub use Rattle.logos_generator.specs.StateView.{AddsBranch, AreStatesOf, AreTablesOf, IsCodable, leaf_use}
