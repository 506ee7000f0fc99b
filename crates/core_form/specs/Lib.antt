pub mod Laws
pub mod Pieces
pub mod Source
pub mod Text
pub mod Trees
pub mod Valid
pub mod Variables
