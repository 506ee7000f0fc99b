pub mod Machine
pub mod Rules
