pub mod Leaf
pub mod Escaping
pub mod Literals
pub mod Imports
pub mod Views
