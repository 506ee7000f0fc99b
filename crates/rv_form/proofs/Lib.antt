pub mod Words
pub mod Distances
pub mod Steadiness
pub mod Walk
pub mod Coded
pub mod CodeBytes
pub mod Edges
