pub mod lexemes
pub mod readings
pub mod spans
