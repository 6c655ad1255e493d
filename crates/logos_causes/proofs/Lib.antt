pub mod SetLemmas
pub mod WarnedLemmas
