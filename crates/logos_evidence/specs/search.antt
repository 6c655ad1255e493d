pub mod Covering
pub mod Machines
pub mod Rests
pub mod Shortest
pub mod inside
pub mod Views
