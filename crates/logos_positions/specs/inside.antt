pub mod Joined
pub mod Repeated
pub mod Stepped
pub mod Characters
pub mod Ranges
pub mod Reader
