pub mod Form
pub mod Spelling
pub mod Reader
