pub mod SubstitutionLemmas
pub mod SubstitutionLaws
pub mod ChainLemmas
mod SlotLemmas
mod GivenLemmas
mod ValueLemmas
mod HeldLemmas
pub mod SettledLemmas
