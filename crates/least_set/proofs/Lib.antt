pub mod Has
mod Marks
mod Marked
pub mod Nexts
mod Spreading
mod Linking
