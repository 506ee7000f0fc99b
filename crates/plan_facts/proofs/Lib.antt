pub mod Listed
pub mod InOrder
pub mod Standing
mod WorkedPlaces
pub mod InRows
pub mod Gathered
pub mod OneByOne
pub mod VariableRows
mod BlankWords
pub mod SiteNumbers
