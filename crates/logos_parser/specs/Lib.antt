pub mod Endings
pub mod EnumTypes
pub mod Refusals
pub mod Analyses
pub mod AnalysisViews
pub mod Utf8Faults
pub mod Imports
pub mod Views
