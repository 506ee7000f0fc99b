mod BrokenCores
pub mod CoreChecks
pub mod LawfulSource
pub mod OneTree
pub mod PieceTexts
mod RunChecks
mod ValidTexts
pub mod WorldsKept
