pub mod BuildingLemmas
pub mod DfaLemmas
pub mod ReachLemmas
pub mod RuleLemmas
pub mod RunLemmas
pub mod TotalLemmas
