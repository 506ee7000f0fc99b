pub mod Laws
pub mod Least
pub mod Race
pub mod Shape
pub mod Valid
