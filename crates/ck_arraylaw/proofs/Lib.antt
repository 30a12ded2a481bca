pub mod Members
pub mod Words
pub mod Linked
mod Writing
mod Holding
mod Collecting
mod Reading
mod Answering
pub mod LawHolds
pub mod Reaching
pub mod Tokens
