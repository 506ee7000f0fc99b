pub mod Memory
pub mod States
pub mod Plays
pub mod Loading
pub mod Held
