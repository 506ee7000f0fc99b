pub mod Valid
pub mod Fields
pub mod File
pub mod Reading
