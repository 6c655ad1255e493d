pub mod Anews
