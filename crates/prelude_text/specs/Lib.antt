pub mod Closure
pub mod Marking
pub mod Text
