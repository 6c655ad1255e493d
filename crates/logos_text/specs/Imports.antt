-- Definitions that contracts cite: those of lower crates, and those of this crate that name none of
-- its types.
pub use Rattle.logos_byte_class.specs.Bytes.{comparison_of}
pub use Rattle.logos_code.specs.CodeView.{branch_of, code_of, condition_of, fork_of, state_of}
pub use Rattle.logos_pattern.specs.Leaf.{callback_value, kind_value}
pub use Rattle.logos_token.specs.Printing.{printed}
pub use Rattle.logos_token.specs.Views.{stream_tokens, tokens_of, tree_of}
pub use Rattle.logos_type.specs.Printed.{printed_type}
pub use Rattle.logos_type.specs.TypeTrees.{type_tree}
pub use Rattle.std.specs.List.{flat_map, join_by}
pub use Rattle.logos_text.specs.Fronts.{BeginsWith, IsFront, answer_text, core_text, error_type_text, gap_after_type, head_text, internals_text, last_arm_text, lexer_end_text, lexer_text, library_text, opening_text, read_type_text, run_after, short_core, signature_text, source_text, tables_use_text, type_text, types_text, uses_text, whole_core}
pub use Rattle.logos_text.specs.FrontRuns.{error_type_runs, front_runs, head_runs, library_twice, opening_runs, read_type_runs, text_runs, typed_runs, types_runs, uses_runs}
pub use Rattle.logos_text.specs.Gaps.{gap_after, gap_of}
pub use Rattle.logos_text.specs.Runs.{action_runs, called_leaf_runs, called_runs, callback_runs, inline_runs, is_called, kind_runs, leaf_runs, name_runs, noted_runs, option_runs, plain_leaf_runs, table_runs, this_runs, variant_runs}
pub use Rattle.logos_text.specs.Occurrence.{Adds, Grows, OccurInOrder}
pub use Rattle.logos_text.specs.Texts.{between_text, bit_text, branch_text, comparison_text, condition_text, end_text, entry_text, exception_text, fork_texts, is_quoted, single_text, state_texts, table_text, table_texts, test_text, texts_in, texts_of, transition_text}
