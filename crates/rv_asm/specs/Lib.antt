pub mod Layout
pub mod Routines
pub mod Symbols
