pub mod LineLemmas
pub mod QuietLemmas
