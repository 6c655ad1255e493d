pub mod RefusalLemmas
pub mod ReportingLemmas
pub mod ShownLemmas
pub mod AcceptLemmas
pub mod AroundLemmas
pub mod GraphLemmas
pub mod LexLemmas
pub mod ExprLemmas
