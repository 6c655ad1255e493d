pub mod Report
pub mod Types
pub mod Options
pub mod Subpatterns
pub mod Leaves
pub mod Variants
pub mod Sources
