pub mod Covers
pub mod Order
pub mod PendingPoints
pub mod Visits
