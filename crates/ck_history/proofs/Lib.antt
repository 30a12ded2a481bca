mod Made
pub mod Order
mod Index
pub mod Step
pub mod Placing
mod Dropping
