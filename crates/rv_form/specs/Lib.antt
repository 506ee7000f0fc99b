pub mod Numbers
pub mod Arithmetic
pub mod Formats
pub mod Instruction
pub mod Image
pub mod Machine
