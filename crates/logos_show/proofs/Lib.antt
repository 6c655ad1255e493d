pub mod CandidateLemmas
pub mod ChoiceLemmas
pub mod RunLemmas
