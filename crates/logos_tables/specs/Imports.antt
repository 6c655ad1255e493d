-- Definitions that contracts cite: those of lower crates, and those of this crate that name none of
-- its types.
pub use Rattle.logos_byte_class.specs.ClassText.{byte_text}
pub use Rattle.logos_code.specs.Bytes.{passes_test}
pub use Rattle.logos_code.specs.CodeView.{code_of, mark_of, state_at, use_of}
pub use Rattle.logos_code.specs.Headline.{NamesState, NamesTest}
pub use Rattle.logos_code.specs.Runs.{stays, target}
pub use Rattle.logos_reduce.specs.Rows.{AreWide, rows_at}
pub use Rattle.std.specs.List.{All, flat_map}
pub use Rattle.logos_tables.specs.Layout.{AreClasses, AreRows, Classify, HaveSameSteps, IsClassOf, by_classes, spread}
pub use Rattle.logos_tables.specs.Steps.{HasSteps, leaf_limit, led_number, mark_number, skip_number, step_number}
pub use Rattle.logos_tables.specs.Texts.{HoldsTables, are_at_most, data_text, end_text, entries_size_text, entries_text, entry_text, field_head, field_text, folded_text, head_text, marks_text, masks_text, runs_texts, size_number, skips_text, step_texts, unpacked_text}
pub use Rattle.logos_tables.specs.inside.Adding.{Appends, AppendsMade, AppendsNumbers, AppendsTables, AreMade}
