pub mod Sets
pub mod Warned
pub mod Imports
pub mod Views
