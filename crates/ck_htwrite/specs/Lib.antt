pub mod Arena
pub mod State
pub mod Entries
pub mod Writes
pub mod Updates
pub mod Rebuild
