pub mod Folds
pub mod Imports
