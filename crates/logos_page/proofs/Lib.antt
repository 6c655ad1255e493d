pub mod PageLemmas
pub mod ShownLemmas
pub mod DigitLemmas
