-- Definitions that contracts cite: those of `Imports`, and those that name types of this crate.
pub use Rattle.logos_byte_class.specs.Imports.{byte_text, class_text, is_in, letter_of, lower_digit, next_ranges_text, range_text}
pub use Rattle.logos_byte_class.specs.Bytes.{AreSeparated, bounds, compares, comparison_of, has_byte, joined, operations, ranges_of, some_compares}
