pub mod Items
pub mod Labels
pub mod Measured
pub mod Placed
pub mod Valid
