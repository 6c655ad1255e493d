pub mod Parts
pub mod TypeTrees
pub mod Depth
pub mod Printed
pub mod Imports
pub mod Views
