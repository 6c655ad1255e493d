pub mod NearLemmas
pub mod MistakeLemmas
pub mod ShownLemmas
