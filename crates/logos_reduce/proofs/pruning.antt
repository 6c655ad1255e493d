pub mod PruneLemmas
pub mod KeptLemmas
