pub mod ReportLemmas
pub mod FaultLemmas
pub mod PartLemmas
pub mod CountLemmas
pub mod WarningLemmas
