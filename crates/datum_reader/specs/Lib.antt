pub mod Answer
pub mod Levels
pub mod Lexing
pub mod Machine
pub mod Nodes
pub mod Numbers
pub mod Reading
pub mod Strings
