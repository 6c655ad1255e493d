pub mod Compared
pub mod Lasts
pub mod Listed
pub mod Machines
pub mod Shown
pub mod Steps
pub mod Stops
