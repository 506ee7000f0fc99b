pub mod Closing
pub mod OneRule
pub mod Passes
pub mod StepsAreMoves
