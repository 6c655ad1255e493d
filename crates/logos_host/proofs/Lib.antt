pub mod CutLemmas
pub mod ShownLemmas
