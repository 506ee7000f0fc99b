pub mod Marked
pub mod Spreading
