pub mod Answers
pub mod Depth
pub mod Levels
pub mod Names
pub mod Renaming
pub mod ScopesHeld
pub mod RenamingSteps
