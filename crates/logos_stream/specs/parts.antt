pub mod PartsValue
pub mod Imports
