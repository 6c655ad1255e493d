pub mod TextLemmas
pub mod PieceLemmas
pub mod FrontLemmas
