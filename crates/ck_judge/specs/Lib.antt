pub mod Verdict
pub mod Placing
pub mod Changes
pub mod Searches
pub mod History
pub mod Bounds
pub mod Files
