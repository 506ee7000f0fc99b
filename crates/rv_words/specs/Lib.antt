pub mod Packed
pub mod Widths
