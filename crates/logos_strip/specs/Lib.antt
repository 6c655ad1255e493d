pub mod Helpers
pub mod Spots
pub mod Stripping
pub mod Entries
pub mod Results
pub mod inside
pub mod Imports
pub mod Views
