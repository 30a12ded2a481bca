pub mod Arena
pub mod Found
