-- Definitions that contracts cite: those of lower crates, and those of this crate.
pub use Rattle.logos_page.specs.Pages.{Gains}
pub use Rattle.logos_diagram.specs.Labels.{AreLabelBytes, coded, is_alphanumeric, is_between, is_coded, is_plain, label_char, label_text}
