pub mod Cutting
mod Counting
pub mod Words
pub mod Feeds
mod Decimals
