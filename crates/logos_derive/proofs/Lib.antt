pub mod DerivationLemmas
pub mod ErrorLemmas
