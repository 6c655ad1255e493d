pub mod Alike
pub mod LastMarks
