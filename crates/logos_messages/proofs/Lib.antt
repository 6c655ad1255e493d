pub mod LineLemmas
pub mod MessageLemmas
pub mod WarningLemmas
