pub mod SharedWords
pub mod Tables
