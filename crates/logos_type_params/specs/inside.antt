pub mod Fronts
pub mod Slots
pub mod Given
pub mod Chains
pub mod Checks
