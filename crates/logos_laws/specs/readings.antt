pub mod PiecesInTurn
pub mod Stays
pub mod ShortReports
pub mod StrippedParts
pub mod VariantSums
pub mod Imports
