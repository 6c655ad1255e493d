pub mod WordLemmas
pub mod EvidenceLemmas
