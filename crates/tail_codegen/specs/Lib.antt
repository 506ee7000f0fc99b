pub mod Items
pub mod Values
pub mod Templates
pub mod Written
