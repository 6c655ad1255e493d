mod LeafLemmas
mod VariantLemmas
pub mod agreement
