pub mod AttemptLemmas
pub mod RunLemmas
pub mod LoadLemmas
pub mod ItemLemmas
