pub mod Linked
pub mod Named
pub mod Placed
pub mod Counted
