mod AlikeLemmas
pub mod TargetLemmas
pub mod CodeLemmas
pub mod RowLemmas
pub mod SignLemmas
pub mod UseLemmas
pub mod MaskLemmas
pub mod Examples
pub mod LastMarkLemmas
