pub mod JoinLemmas
pub mod TextLemmas
