pub mod CommaLemmas
pub mod SiteLemmas
pub mod ThinningLemmas
pub mod BackLemmas
