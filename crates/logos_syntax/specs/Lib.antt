pub mod bracket
pub mod inside
pub mod Written
pub mod Limits
pub mod Grammar
pub mod Nesting
pub mod Imports
pub mod Views
