pub mod DescriptionLemmas
pub mod EnoughLemmas
pub mod ItemLemmas
pub mod EscapeLemmas
pub mod FlowLemmas
pub mod FindLemmas
pub mod SpanLemmas
