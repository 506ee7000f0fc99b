pub mod Rules
pub mod BitsFollowing
pub mod States
pub mod PlainSteps
