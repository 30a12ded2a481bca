pub mod Steps
pub mod Epochs
pub mod Opening
pub mod Calls
pub mod Places
pub mod Placed
pub mod Bounded
