pub mod MergeLemmas
pub mod HistoryLemmas
pub mod KeyLemmas
pub mod TwinLemmas
pub mod HitLemmas
pub mod CountLemmas
pub mod ClassLemmas
