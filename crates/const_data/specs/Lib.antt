pub mod Words
pub mod Naming
