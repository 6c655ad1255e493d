pub mod ValueReads
pub mod Reading
pub mod PrintingSteps
