pub mod ShapeLemmas
pub mod EntryLemmas
pub mod OnceLemmas
pub mod BareLemmas
