pub mod Alike
pub mod Prepared
pub mod TopSets
pub mod Steps
