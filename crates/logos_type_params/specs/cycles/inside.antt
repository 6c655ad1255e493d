pub mod Memberships
pub mod Traversals
