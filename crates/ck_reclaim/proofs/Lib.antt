pub mod Along
mod Filtered
mod Places
mod Linking
pub mod Reclaiming
