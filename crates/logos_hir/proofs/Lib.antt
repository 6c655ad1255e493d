pub mod tree
pub mod lemmas
pub mod MeasureLemmas
