pub mod Implementations
pub mod Diagnostics
pub mod Derivations
pub mod inside
pub mod Imports
pub mod Views
