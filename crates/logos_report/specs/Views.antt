-- Definitions that contracts cite: those of `Imports`, and those that name types of this crate.
pub use Rattle.logos_report.specs.Imports.{Begins, Continues, Ends, IsInLine, IsLineOf, IsLongLine, IsNoLine, count_by, fault_of, faults_of, is_ambiguity, is_error, is_explained, name_of, location_at, Shows, shown_char, shown_text}
pub use Rattle.logos_report.specs.Faults.{code_text, count_text, counted_texts, explained_texts, fault_texts, faults_texts, first_line, has_name, head_line, left_out, listed_texts, rest_line, rest_text, seen_of, summary_line, texts_after}
pub use Rattle.logos_page.specs.Pages.{Gains, begun, ended, painted, style_text, times}
pub use Rattle.logos_report.specs.Parts.{all_faults, listed_faults, refused_texts, texts_from}
pub use Rattle.logos_report.specs.Locations.{arrow_line, in_file, location_line, shown_location, shown_line_column}
pub use Rattle.logos_report.specs.Sets.{begins_error, errors_after, first_faults, follows, from_of, sizes_of, stepped, next_after, next_value, offsets_of, starts_in, starts_of}
pub use Rattle.logos_report.specs.Warnings.{all_texts, left_out_line, left_out_texts, shown_of, warning_head, warning_texts, warnings_texts}
