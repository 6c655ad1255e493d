pub mod FileWarningLemmas
pub mod GatherLemmas
