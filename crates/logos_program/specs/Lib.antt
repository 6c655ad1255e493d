pub mod Called
pub mod Endings
