pub mod LeafSpans
pub mod Imports
