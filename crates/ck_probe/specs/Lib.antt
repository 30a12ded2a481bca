pub mod Canon
pub mod Codes
pub mod Entries
pub mod Mixing
pub mod Names
pub mod ProbeOrder
pub mod Words
