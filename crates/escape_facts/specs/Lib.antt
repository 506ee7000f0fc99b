pub mod Owners
pub mod Reached
