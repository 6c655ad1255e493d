mod CallbackLemmas
mod LiteralLemmas
mod NumberLemmas
mod PieceLemmas
pub mod ReportLemmas
