pub mod ExampleLemmas
pub mod MatchLemmas
pub mod RecordLemmas
