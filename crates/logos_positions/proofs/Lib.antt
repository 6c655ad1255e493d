pub mod classes
pub mod steps
pub mod trees
