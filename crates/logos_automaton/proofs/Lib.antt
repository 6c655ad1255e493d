pub mod ambiguity
pub mod keys
pub mod munch
pub mod runs
