-- Definitions that contracts cite: those of `Imports`, and those that name types of this crate.
pub use Rattle.logos_text.specs.Imports.{Adds, BeginsWith, Grows, IsFront, OccurInOrder, action_runs, answer_text, called_leaf_runs, called_runs, callback_runs, callback_value, code_of, core_text, error_type_runs, error_type_text, flat_map, front_runs, gap_after, gap_after_type, head_runs, head_text, inline_runs, internals_text, is_called, kind_runs, kind_value, last_arm_text, leaf_runs, lexer_end_text, lexer_text, library_text, library_twice, name_runs, noted_runs, opening_runs, opening_text, option_runs, plain_leaf_runs, printed, printed_type, read_type_runs, read_type_text, run_after, short_core, signature_text, source_text, state_of, state_texts, stream_tokens, table_runs, tables_use_text, text_runs, texts_in, texts_of, this_runs, tokens_of, type_text, type_tree, typed_runs, types_runs, types_text, uses_runs, uses_text, variant_runs, whole_core}
pub use Rattle.logos_text.specs.Arounds.{around_value}
pub use Rattle.logos_text.specs.Pieces.{ArePrinted, IsEmptySink, Notes, NotesLast, Prints, PrintsPiece}
