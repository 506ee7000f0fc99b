pub mod Indices
pub mod Homes
pub mod Linked
pub mod Flattening
pub mod Acts
pub mod Programs
mod Beside
