pub mod bracket
pub mod Flags
pub mod Token
pub mod Escapes
pub mod Openings
pub mod Spelling
pub mod Reader
pub mod Views
