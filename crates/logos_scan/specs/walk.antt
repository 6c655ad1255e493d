pub mod Walk
pub mod Blocks
pub mod Masks
pub mod Cursor
pub mod Cursors
pub mod Repairs
pub mod Imports
pub mod Views
