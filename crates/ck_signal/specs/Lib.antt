pub mod Words
pub mod Signals
pub mod Laws
pub mod Told
