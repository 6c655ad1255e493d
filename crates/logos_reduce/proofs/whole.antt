pub mod EndLemmas
pub mod UseLemmas
