pub mod SetSteps
pub mod BuildSteps
pub mod Fits
pub mod FoldSteps
pub mod Effects
pub mod MeasureSteps
