pub mod PatternFaults
pub mod StoredViews
pub mod SubpatternViews
pub mod Subpatterns
pub mod Substitution
pub mod inside
pub mod Imports
pub mod Views
