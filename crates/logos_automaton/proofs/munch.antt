pub mod Examples
pub mod Outside
pub mod Unique
pub mod Window
