-- Definitions that contracts cite: those of lower crates, and those of this crate that name none of
-- its types.
pub use Rattle.logos_hir.specs.ByteRanges.{is_in}
pub use Rattle.logos_byte_class.specs.ClassText.{byte_text, class_text, letter_of, lower_digit, next_ranges_text, range_text}
