-- Definitions that contracts cite: those of lower crates, and those of this crate that name none of
-- its types.
pub use Rattle.logos_token.specs.PrinterViews.{printed_of}
pub use Rattle.logos_token.specs.Printing.{print_part}
