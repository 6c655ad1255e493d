pub mod CompareLemmas
pub mod ConditionLemmas
pub mod EndLemmas
