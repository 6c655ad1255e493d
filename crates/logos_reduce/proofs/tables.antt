pub mod PushLemmas
pub mod RowLemmas
pub mod RunLemmas
pub mod EdgeLemmas
