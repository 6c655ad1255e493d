pub mod subpattern
pub mod LeafViews
pub mod Leaves
pub mod Sources
pub mod VariantFaults
pub mod Variants
pub mod inside
pub mod Imports
