pub mod Levels
pub mod Texts
pub mod Answered
pub mod OperandLemmas
pub mod LeavesLemmas
