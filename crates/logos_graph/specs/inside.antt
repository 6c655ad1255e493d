pub mod First
pub mod RawTable
pub mod States
pub mod Walk
