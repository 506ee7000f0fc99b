pub mod FlatCode
pub mod FlatWritten
pub mod FlatRun
pub mod FlatStorage
pub mod FlatValid
