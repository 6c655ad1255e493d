pub mod MarkLemmas
pub mod LeadLemmas
