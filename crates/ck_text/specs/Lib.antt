pub mod Lines
pub mod Words
pub mod Decimals
pub mod Laws
