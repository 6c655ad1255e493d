pub mod NumberLemmas
pub mod StateLemmas
pub mod VisitLemmas
