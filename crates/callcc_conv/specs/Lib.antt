pub mod Graph
pub mod Recording
