pub mod Levels
pub mod Reading
pub mod Depth
pub mod NameLemmas
pub mod Texts
pub mod Fronts
