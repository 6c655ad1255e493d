pub mod PrintWindows
pub mod PrintOpenings
pub mod PrintEnds
pub mod PrintNames
pub mod PrintLifetimes
pub mod PrintBodies
pub mod PrintLexemes
pub mod PrintFacts
