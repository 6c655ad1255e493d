-- Definitions that contracts cite: those of `Imports`, and those that name types of this crate.
pub use Rattle.logos_page.specs.Imports.{shown_char, shown_text}
pub use Rattle.logos_page.specs.Pages.{Gains, Shows, begun, ended, painted, style_text, times}
