pub mod Giving
pub mod Backs
pub mod Taking
pub mod Ranges
pub mod Few
