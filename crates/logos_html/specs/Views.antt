-- Definitions that contracts cite: those of `Imports`, and those about items.
pub use Rattle.logos_html.specs.Imports.{AllStart, Gains, IsBytes, IsDead, IsEnough, IsGraphOf, IsNoMisuse, ReadsAs, byte_escape, dfa_next, dfa_of, escaped_char, escaped_line_char, escaped_lines, escaped_text, flowing_byte, flowing_bytes, flowing_char, flowing_others, flowing_text, hex_digit, line_end, rules_of, shown_lines, shown_text}
pub use Rattle.logos_machine.specs.LexerValue.{TakesMatches, answers_of, item_of}
pub use Rattle.logos_html.specs.Descriptions.{DescribedItem, IsDescribed, IsDescription, end_of, start_of}
pub use Rattle.logos_html.specs.Finds.{Begins, emits}
pub use Rattle.logos_html.specs.Spans.{class_text, description_text, error_head, extent_label, item_head, item_markup, items_text, location_label, moved, name_label, next_text, part_of, label_end, priority_at, priority_label, range_text, slice_text, span_data, token_head}
pub use Rattle.logos_html.specs.Marked.{AreDescribed, HasMarked, IsMarked, shown}
pub use Rattle.logos_html.specs.DescribedView.{described_of, items_of}
