pub mod MatchLemmas
pub mod VerdictLemmas
