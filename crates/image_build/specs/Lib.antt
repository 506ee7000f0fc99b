pub mod Emitted
pub mod Planned
