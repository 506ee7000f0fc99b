pub mod Count
pub mod Least
pub mod Places
pub mod Race
pub mod Words
pub mod Workers
