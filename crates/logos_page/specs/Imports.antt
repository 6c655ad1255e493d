-- Definitions that contracts cite: those of lower crates, and those of this crate that name none of
-- its types.
pub use Rattle.std.specs.Int.{is_in_range}
pub use Rattle.logos_page.specs.Shown.{is_unsafe, shown_char, shown_text, occur_in}
