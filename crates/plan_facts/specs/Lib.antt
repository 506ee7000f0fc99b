pub mod Places
pub mod Walk
pub mod Pairs
pub mod Calls
pub mod Capturing
pub mod Escaping
pub mod Slotted
pub mod Represented
