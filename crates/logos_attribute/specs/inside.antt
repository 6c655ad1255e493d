pub mod CallbackRuns
pub mod Cutting
pub mod FlagSteps
pub mod Steps
