pub mod Blocks
pub mod Gifts
pub mod Others
pub mod Reached
pub mod Resting
pub mod Rests
pub mod StepsOfPass
