pub mod Reached
pub mod Programs
pub mod Runs
