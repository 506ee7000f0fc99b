pub mod Files
pub mod InRows
pub mod Laid
pub mod Naming
pub mod Refusals
pub mod Plans
