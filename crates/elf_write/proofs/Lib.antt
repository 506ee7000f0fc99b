pub mod Loading
pub mod Validity
pub mod Answers
pub mod WrittenIsRead
pub mod Joined
