pub mod FrontLemmas
pub mod TailLemmas
pub mod WindowLemmas
pub mod NextLemmas
pub mod WholeLemmas
pub mod LeftLemmas
