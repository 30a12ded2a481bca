pub mod Words
pub mod Runs
pub mod Listing
pub mod Gathering
pub mod Stepping
pub mod Faults
pub mod OneReading
pub mod FirstLine
pub mod Streaming
mod Blocks
pub mod Answering
pub mod ListLines
