pub mod PrintingLemmas
pub mod PrintParts
pub mod PrintPieces
pub mod PrintAgain
pub mod PrintDelimiters
pub mod PrintSources
pub mod PrintRuns
